-- What the choices say, by their rows.
use Rattle.std.proofs.{Common.{List, None, Option, Some, [], ap, arith, cond, filter, inl, inr, length, map, refl, suc, sym, true, ℕ, ◌++◌, ◌+◌, ◌-◌, ◌<◌, ◌∙◌, ◌≡◌, ◌≤◌}, Math.Bool.or-false, lemmas.{Bool.cases_lt, List.{append-nil, length-map}, Option.{slice_get-map, slice_get_past, slice_get_within}}}
use Rattle.std.specs.{List.{filter_map, flat_map, list_any, slice_get}, Option.option_and_then, Prelude.{option_map, ◌==◌, ◌⊎◌}}
use Rattle.kc_language.specs.{Expansion.{enclosing, last_of, numbers}, Expressions.same_symbol, Statements.{ChoiceLine, Numbered}, Symbols.{Condition, StatedDefault, block_conjuncts, choice_facts as facts_at, choice_number, choice_of, dependency, dependency_in, enclosing_choice, guarded, is_symbol_of, listed, members_of, of_block, own_visible, prompt_of, single_symbol, stated_default}, declared.{expressions.SymId.SymId, statements.Block.Block}}
use Rattle.kc_entries.specs.{PartsOfSymbols.{choices, enclosing_visible}, declared.entries.Entries.Entries}
use Rattle.kc_entries.proofs.{ElementLemmas.kept_at, PlaceLemmas.there_in}
use Rattle.kc_tree.specs.{EntryViews.{begins_choice, definitions_from, entry_count, entry_numbers, entry_symbol, head_at, index_of, is_choice_line, said_by, statements_in}, Layouts.{choice_dependency, choice_facts, condition_at, is_member, member_default, outer_context, place_of, prompt_view, visible_at, with_when}, Places.{mode_view, shows}, declared.{layout.Layout.Layout, rows.{Choice.Choice, Symbol.Symbol}}}
use Rattle.kc_tree.specs.Layouts as layout
use Rattle.kc_tree.proofs.{DefinitionLemmas.{defines-is, prompt-is}, EntryListLemmas.{choice-lines, choice-number, definitions-at}, IndexLemmas.{attributes-is, head-is}, ListLemmas.kept-there, OuterLemmas.{around-asks, around-mode, context-same, outer-below}, VisibleLemmas.visible-is, WalkLemmas.{Found, first-found}}

choice-line : (o : Option Numbered) → is_choice_line o ≡ true → o ≡ Some ChoiceLine
choice-line (Some ChoiceLine) h = refl
choice-line _ h = absurd cc

module _ (l : Layout) where
  abbrev es : Entries
  es = l.entries

  abbrev ss : List Numbered
  ss = statements_in es

  pub choices-count : length (filter (begins_choice es) (entry_numbers es)) ≡ length l.choices.items
  choices-count =
      sym (length-map (filter (begins_choice es) (entry_numbers es)) suc) ∙ sym (ap length l.laid.choice_entries) ∙ length-map l.choices.items (λ (c : Choice). c.entry.0)

  -- The entry of the choice with a number.
  pub record IsChoice (k : ℕ) (c : Choice) (e : ℕ) : Type 0 where
    pub entry : c.entry.0 ≡ suc e
    pub there : e < entry_count es
    pub begins : begins_choice es e ≡ true
    pub number : choice_number ss (index_of es e) ≡ k
    pub at : slice_get (filter (begins_choice es) (entry_numbers es)) k ≡ Some e

  pub choice-at : (k : ℕ) (c : Choice) → slice_get l.choices.items k ≡ Some c → (e : ℕ) × IsChoice k c e
  choice-at k c h =
      let within = slice_get_within l.choices.items k c h in
      let e = there_in (filter (begins_choice es) (entry_numbers es)) k (omega (arith, within, choices-count)) in
      let kept = kept_at (begins_choice es) (entry_count es) k (e.0) (e.1) in
      let there : e.0 < entry_count es = kept.below in
      let same : Some c.entry.0 ≡ Some (suc (e.0)) =
      sym (ap (option_map (λ (d : Choice). d.entry.0)) h)
      ∙ sym (slice_get-map (λ (d : Choice). d.entry.0) l.choices.items k)
      ∙ ap (λ r. slice_get r k) l.laid.choice_entries
      ∙ slice_get-map suc (filter (begins_choice es) (entry_numbers es)) k
      ∙ ap (option_map suc) (e.1) in (
        e.0,
        record {
          entry = cc;
          there = there;
          begins = kept.passes;
          number = choice-number es (e.0) (omega (arith, there)) ∙ kept.count;
          at = e.1;
        },
      )

  -- The row of the choice that an entry begins.
  pub record IsBegun (e : ℕ) : Type 0 where
    pub row : Choice
    pub at : slice_get l.choices.items (choice_number ss (index_of es e)) ≡ Some row
    pub entry : row.entry.0 ≡ suc e

  numbered : (e : ℕ) → e < entry_count es → begins_choice es e ≡ true → slice_get (filter (begins_choice es) (entry_numbers es)) (choice_number ss (index_of es e)) ≡ Some e
  numbered e h b = ap (slice_get (filter (begins_choice es) (entry_numbers es))) (choice-number es e (omega (arith, h))) ∙ kept-there (begins_choice es) (entry_count es) e h b

  pub choice-there : (e : ℕ) → e < entry_count es → begins_choice es e ≡ true → IsBegun e
  choice-there e h b =
      let at = numbered e h b in
      let within = slice_get_within (filter (begins_choice es) (entry_numbers es)) (choice_number ss (index_of es e)) e at in
      let row = there_in l.choices.items (choice_number ss (index_of es e)) (omega (arith, within, choices-count)) in
      let is = choice-at (choice_number ss (index_of es e)) (row.0) (row.1) in
      record { row = row.0; at = row.1; entry = (is.1).entry ∙ same (is.0) (sym ((is.1).at) ∙ at) }
    where
      same : (f : ℕ) → Some f ≡ Some e → suc f ≡ suc e
      same f q = cc

  -- Whether a symbol is a member.
  no-definition : (s : SymId) (o : Option ℕ) → slice_get l.symbols.items s.0 ≡ None → Found (λ k. is_symbol_of s (entry_symbol es k)) (entry_count es) 0 o → definitions_from es s 0 ≡ []
  no-definition s None h f = f
  no-definition s (Some k) h f =
      let below = l.laid.symbols_there k s (defines-is s (entry_symbol es k) f.passes) in
      let x = there_in l.symbols.items s.0 below in
      absurd (let no : None ≡ Some (x.0) = sym h ∙ x.1 in cc)

  member-by : (k : ℕ) (s : SymId) (o : Option Symbol) → slice_get l.symbols.items s.0 ≡ o →
      list_any (λ (row : Symbol). list_any (λ j. j == k) (listed (mode_view row.choice))) (listed o) ≡ list_any (λ j. j == k) (listed (choice_of ss s))
  member-by k s None h =
      let none = no-definition s _ h (first-found (λ j. is_symbol_of s (entry_symbol es j)) (entry_count es) 0) in
      sym (ap (λ is. list_any (λ j. j == k) (listed (slice_get (filter_map (enclosing_choice ss) is) 0))) (definitions-at es s ∙ ap (map (index_of es)) none))
  member-by k s (Some row) h =
      or-false (list_any (λ j. j == k) (listed (mode_view row.choice)))
      ∙ ap (λ o. list_any (λ j. j == k) (listed o)) ((l.laid.symbols_are s.0 row h).choice)

  pub member-is : (k : ℕ) (s : SymId) → is_member l k s ≡ list_any (same_symbol s) (members_of ss k)
  member-is k s = member-by k s (slice_get l.symbols.items s.0) refl ∙ sym (l.laid.members_once k s)

  -- What a choice depends on itself, and what is visible in it.
  pub choice-dependency : (k : ℕ) (c : Choice) (e : ℕ) → IsChoice k c e → choice_dependency l c ≡ dependency ss (index_of es e)
  choice-dependency k c e is =
      let there = is.there in
      let low = outer-below l e there in
      let line : slice_get ss (index_of es e) ≡ Some ChoiceLine = head-is es e ∙ choice-line (head_at es e) is.begins in
      let around : (condition_at l (outer_context l (suc e))).conjuncts ≡ flat_map (block_conjuncts ss) (enclosing ss (index_of es e)) =
      ap (λ (d : Condition). d.conjuncts) (sym (context-same l ((place_of l (suc e)).outer.0) (omega (arith, low, there))))
      ∙ sym (around-asks l e ((place_of l (suc e)).outer.0) there refl) in
      let alone = sym (l.laid.apart (index_of es e) line) in
      let own = sym (attributes-is es e) in
      ap (λ at. record { conjuncts = (condition_at l (outer_context l at)).conjuncts ++ filter_map dependency_in (layout.said_at l at); mode = None }) is.entry
      ∙ (λ j. record { conjuncts = around j ++ filter_map dependency_in (own j); mode = alone j })

  -- no choice is around it
  pub choice-alone : (e : ℕ) → e < entry_count es → begins_choice es e ≡ true → (condition_at l (outer_context l (suc e))).mode ≡ None
  choice-alone e h b =
      let low = outer-below l e h in
      ap (λ (d : Condition). d.mode) (sym (context-same l ((place_of l (suc e)).outer.0) (omega (arith, low, h))))
      ∙ sym (around-mode l e ((place_of l (suc e)).outer.0) h refl)
      ∙ l.laid.apart (index_of es e) (head-is es e ∙ choice-line (head_at es e) b)

  pub choice-visible : (e : ℕ) → e < entry_count es → begins_choice es e ≡ true → visible_at l (place_of l (suc e)).visible.0 ≡ enclosing_visible ss (index_of es e)
  choice-visible e h b =
      visible-is l e h
      ∙ ap (λ o. enclosing_visible ss (index_of es e) ++ cond (shows o (said_by es e)) (own_visible ss (index_of es e)) []) (choice-line (head_at es e) b)
      ∙ append-nil (enclosing_visible ss (index_of es e))

  default-by : (k : ℕ) (c : Choice) (e : ℕ) → IsChoice k c e → (d : StatedDefault) →
      option_and_then (λ s. cond (list_any (same_symbol s) (members_of ss (choice_number ss (index_of es e)))) (Some (guarded ss (index_of es e) s d.when)) None) (single_symbol d.value)
      ≡ member_default l k (choice_dependency l c) d
  default-by k c e is d =
      let dep = sym (choice-dependency k c e is) in
      let test : (s : SymId) → list_any (same_symbol s) (members_of ss (choice_number ss (index_of es e))) ≡ is_member l k s = λ s. ap (λ n. list_any (same_symbol s) (members_of ss n)) is.number ∙ sym (member-is k s) in
      λ j. option_and_then (λ s. cond (test s j) (Some (record { what = s; when = with_when (dep j) d.when })) None) (single_symbol d.value)

  pub choice-facts : (k : ℕ) (c : Choice) (e : ℕ) → slice_get l.choices.items k ≡ Some c → IsChoice k c e → facts_at ss (index_of es e) ≡ choice_facts l k c
  choice-facts k c e h is =
      let dep = sym (choice-dependency k c e is) in
      let members : members_of ss (choice_number ss (index_of es e)) ≡ c.members.items = ap (members_of ss) is.number ∙ sym (l.laid.members k c h) in
      let visible = sym (choice-visible e is.there is.begins) ∙ ap (λ at. visible_at l (place_of l at).visible.0) (sym is.entry) in
      let prompt = ap (λ r. last_of (filter_map prompt_of r)) (attributes-is es e) ∙ sym (prompt-is l e is.there) ∙ ap (λ at. layout.prompt_in l (place_of l at)) (sym is.entry) in
      let own = attributes-is es e ∙ ap (layout.said_at l) (sym is.entry) in
      λ j. record {
        prompt = option_map (prompt_view (dep j) (visible j)) (prompt j);
        defaults = filter_map (λ d. default-by k c e is d j) (filter_map stated_default (own j));
        members = members j;
      }

  -- All choices.
  facts-by : (k : ℕ) → (k < length l.choices.items) ⊎ (length l.choices.items ≤ k) →
      option_map (facts_at ss) (option_map (index_of es) (slice_get (filter (begins_choice es) (entry_numbers es)) k)) ≡ option_map (choice_facts l k) (slice_get l.choices.items k)
  facts-by k (inl h) =
      let c = there_in l.choices.items k h in
      let e = choice-at k (c.0) (c.1) in
      ap (λ o. option_map (facts_at ss) (option_map (index_of es) o)) (e.1).at ∙ ap Some (choice-facts k (c.0) (e.0) (c.1) (e.1)) ∙ sym (ap (option_map (choice_facts l k)) (c.1))
  facts-by k (inr h) =
      ap (λ o. option_map (facts_at ss) (option_map (index_of es) o)) (slice_get_past (filter (begins_choice es) (entry_numbers es)) k (omega (arith, h, choices-count)))
      ∙ sym (ap (option_map (choice_facts l k)) (slice_get_past l.choices.items k h))

  pub choices-are : (k : ℕ) → slice_get (choices ss) k ≡ option_map (choice_facts l k) (slice_get l.choices.items k)
  choices-are k =
      ap (λ is. slice_get (map (facts_at ss) is) k) (choice-lines es)
      ∙ slice_get-map (facts_at ss) (map (index_of es) (filter (begins_choice es) (entry_numbers es))) k
      ∙ ap (option_map (facts_at ss)) (slice_get-map (index_of es) (filter (begins_choice es) (entry_numbers es)) k)
      ∙ facts-by k (cases_lt k (length l.choices.items))

  pub choices-length : length (choices ss) ≡ length l.choices.items
  choices-length =
      length-map (filter (of_block ss Block.Choice) (numbers (length ss))) (facts_at ss) ∙ ap length (choice-lines es)
      ∙ length-map (filter (begins_choice es) (entry_numbers es)) (index_of es) ∙ choices-count
