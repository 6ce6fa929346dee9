-- One step of the walks outwards: of what entries ask for, and of what menus ask of what is visible.
use Rattle.std.proofs.{Common.{List, None, Option, Some, [], ap, arith, false, inl, inr, length, refl, subst, suc, sym, true, zero, ℕ, ◌++◌, ◌<◌, ◌∙◌, ◌≡◌, ◌≤◌}, lemmas.{Bool.cases_lt, List.append-nil, Option.{slice_get_past, slice_get_within}}}
use Rattle.std.specs.{List.{filter_map, slice_get}, Option.{is_some, option_map_or}, Prelude.{option_map, ◌⊎◌}}
use Rattle.kc_language.specs.{Expressions.lesser, Statements.{ChoiceLine, Numbered}, Symbols.{Condition, choice_number, dependency_in, visible_in}, declared.expressions.Tri.{TheVariants.N, Tri}}
use Rattle.kc_entries.specs.{StatementViews.head_view, declared.entries.{AttributeLine.AttributeLine, Entry.Entry}}
use Rattle.kc_entries.proofs.PlaceLemmas.{there_in}
use Rattle.kc_tree.specs.{EntryViews.{begins_choice, entry_count, head_at, index_of, is_choice_line, said_by, statements_in, statements_of}, Layouts.{asked_by, choice_dependency, condition_at, entry_at, mode_in, outer_context, outer_visible, own_at, place_of, said_at, visible_at, visible_menu}, Stored.unstored, declared.{layout.Layout.Layout, rows.{Choice.Choice, EntryId.EntryId, EntryPlace.EntryPlace}}}
use Rattle.kc_tree.proofs.{ChoiceAtLemmas.choice-at-entry, ChoiceLemmas.{choice-alone, choice-at}, OuterLemmas.{condition-past, condition-step, in_entry, outer_context-before, place-past}, VisibleLemmas.{menu-at, outer_visible-before, visible-past, visible-step}}
use Rattle.kc_values.specs.AtTable as table
use Rattle.kc_values.specs.{TableFacts.known_at, declared.table.Table.Table}
use Rattle.kc_values.proofs.{ConditionLemmas.{and_value-append, condition-plain, condition-with_conjuncts, lesser-step}, TriLemmas.{lesser_comm, lesser_y}}

-- an entry that is no choice asks for what its lines do
pub asked-plain : (t : Table) (at : ℕ) (head : Numbered) (own : List Numbered) → is_choice_line (Some head) ≡ false →
    table.and_value t (asked_by (Some head) own) ≡ table.asked_value t at head own
asked-plain t at ChoiceLine own h = absurd cc
asked-plain t at _ own h = refl

plain-mode : (head : Numbered) (k : ℕ) (m : Option ℕ) → mode_in (Some head) k m ≡ None → is_choice_line (Some head) ≡ false
plain-mode ChoiceLine k m h = absurd cc
plain-mode _ k m h = refl

outer-mode : (head : Numbered) (k : ℕ) (m : Option ℕ) → mode_in (Some head) k m ≡ None → m ≡ None
outer-mode ChoiceLine k m h = absurd cc
outer-mode _ k m h = h

module _ (t : Table) where
  abbrev l : Layout
  l = t.layout.now

  -- ---- Entries
  -- where no mode counts
  context-plain : (at : ℕ) → (condition_at l at).mode ≡ None → table.context t at ≡ table.and_value t (condition_at l at).conjuncts
  context-plain at m = condition-plain t.tree.now (known_at t) (condition_at l at) m

  module _ (e : ℕ) (x : Entry) (h : entry_at l (suc e) ≡ Some x) where
    abbrev head : Numbered
    head = head_view x.head

    abbrev outside : ℕ
    outside = outer_context l (suc e)

    there : e < entry_count l.entries
    there = slice_get_within l.entries.first_lines.items e x h

    begins : head_at l.entries e ≡ Some head
    begins = ap (option_map (λ (y : Entry). head_view y.head)) h

    abbrev number : ℕ
    number = choice_number (statements_in l.entries) (index_of l.entries e)

    whole : condition_at l (suc e) ≡ in_entry (condition_at l outside) (Some head) (said_at l (suc e)) number
    whole = condition-step l e there ∙ ap (λ o. in_entry (condition_at l outside) o (said_at l (suc e)) number) begins

    -- a choice asks for its mode, and no other mode counts around it
    choice-step : head ≡ ChoiceLine →
        table.condition t (in_entry (condition_at l outside) (Some ChoiceLine) (said_at l (suc e)) number) ≡ lesser (table.context t outside) (table.mode_at t (suc e))
    choice-step q =
        let c = condition_at l outside in
        let is : begins_choice l.entries e ≡ true = ap is_choice_line (begins ∙ ap Some q) in
        let mode : table.mode_at t (suc e) ≡ table.mode_of t number = ap (λ (o : Option ℕ). option_map_or (table.mode_of t) o N) (choice-at-entry l e there is) in
        let around = context-plain outside (choice-alone l e there is) in
        ap (λ r. lesser (table.and_value t r) (table.mode_of t number)) (append-nil c.conjuncts)
        ∙ (λ j. lesser (sym around j) (sym mode j))

    step-by : (n : Numbered) → head ≡ n →
        table.condition t (in_entry (condition_at l outside) (Some n) (said_at l (suc e)) number) ≡ lesser (table.context t outside) (table.asked_value t (suc e) n (said_at l (suc e)))
    step-by ChoiceLine q = choice-step q
    step-by n q = condition-with_conjuncts t.tree.now (known_at t) (condition_at l outside) (asked_by (Some n) (said_at l (suc e)))

    asked-step : table.context t (suc e) ≡ lesser (table.context t outside) (table.asked_value t (suc e) head (said_at l (suc e)))
    asked-step = ap (table.condition t) whole ∙ step-by head refl

    mode-is : (condition_at l (suc e)).mode ≡ None → mode_in (Some head) number (condition_at l outside).mode ≡ None
    mode-is m = sym (ap (λ (c : Condition). c.mode) whole) ∙ m

  -- An entry, by its number as it is stored: what it asks for comes behind what those outside ask.
  pub record IsAsked (at : ℕ) (x : Entry) : Type 0 where
    pub asks : table.context t at ≡ lesser (table.context t (outer_context l at)) (table.asked_value t at (head_view x.head) (said_at l at))
    -- where no mode counts, it is no choice, and none counts outside
    pub plain : (condition_at l at).mode ≡ None → is_choice_line (Some (head_view x.head)) ≡ false
    pub alone : (condition_at l at).mode ≡ None → (condition_at l (outer_context l at)).mode ≡ None

  pub asked-at : (at : ℕ) (x : Entry) → Some x ≡ entry_at l at → IsAsked at x
  asked-at zero x h = absurd cc
  asked-at (suc e) x h = record {
    asks = asked-step e x (sym h);
    plain = λ m. plain-mode (head_view x.head) (number e x (sym h)) (condition_at l (outer_context l (suc e))).mode (mode-is e x (sym h) m);
    alone = λ m. outer-mode (head_view x.head) (number e x (sym h)) (condition_at l (outer_context l (suc e))).mode (mode-is e x (sym h) m);
  }

  -- past the last entry there is nothing, and nothing outside
  past : (e : ℕ) → None ≡ entry_at l (suc e) → entry_count l.entries ≤ e
  past e h = by (cases_lt e (entry_count l.entries))
    where
      by : (e < entry_count l.entries) ⊎ (entry_count l.entries ≤ e) → entry_count l.entries ≤ e
      by (inl b) = let y = there_in l.entries.first_lines.items e b in absurd (let no : None ≡ Some (y.0) = h ∙ y.1 in cc)
      by (inr b) = b

  outside-past : (e : ℕ) → entry_count l.entries ≤ e → outer_context l (suc e) ≡ 0
  outside-past e h = ap (λ (p : EntryPlace). (place_of l p.outer.0).context.0) (place-past l e h)

  past-same : (at : ℕ) → None ≡ entry_at l at → table.context t at ≡ table.context t (outer_context l at)
  past-same zero h = refl
  past-same (suc e) h = ap (table.condition t) (condition-past l e (past e h)) ∙ sym (ap (table.context t) (outside-past e (past e h)))

  pub past-alone : (at : ℕ) → None ≡ entry_at l at → (condition_at l (outer_context l at)).mode ≡ None
  past-alone zero h = refl
  past-alone (suc e) h = ap (λ n. (condition_at l n).mode) (outside-past e (past e h))

  -- those outside have smaller numbers
  pub outside-before : (at : ℕ) → is_some (unstored at) ≡ true → outer_context l at < at
  outside-before zero h = absurd cc
  outside-before (suc e) h = by (cases_lt e (entry_count l.entries))
    where
      by : (e < entry_count l.entries) ⊎ (entry_count l.entries ≤ e) → outer_context l (suc e) < suc e
      by (inl b) = let low = outer_context-before l e b in omega (arith, low)
      by (inr b) = let none = outside-past e b in omega (arith, none)

  -- One step of a walk outwards: from an entry that is there, and from none.
  pub walk-there : (at : ℕ) (x : Entry) (own : List AttributeLine) (least next result : Tri) (outer : ℕ) → Some x ≡ entry_at l at → own ≡ own_at l at →
      next ≡ lesser least (table.asked_value t at (head_view x.head) (statements_of own)) → outer ≡ outer_context l at → lesser least (table.context t at) ≡ result → lesser next (table.context t outer) ≡ result
  walk-there at x own least next result outer h o is q before =
      (λ j. lesser ((is ∙ ap (λ r. lesser least (table.asked_value t at (head_view x.head) (statements_of r))) o) j) (table.context t (q j)))
      ∙ lesser-step least (table.asked_value t at (head_view x.head) (said_at l at)) (table.context t (outer_context l at)) (table.context t at) result (asked-at at x h).asks before

  pub walk-past : (at : ℕ) (least next result : Tri) (outer : ℕ) → None ≡ entry_at l at → next ≡ least → outer ≡ outer_context l at →
      lesser least (table.context t at) ≡ result → lesser next (table.context t outer) ≡ result
  walk-past at least next result outer h is q before = (λ j. lesser (is j) (table.context t (q j))) ∙ sym (ap (lesser least) (past-same at h)) ∙ before

  -- ---- Choices
  -- no mode counts around a choice
  pub row-alone : (k : ℕ) (c : Choice) → Some c ≡ slice_get l.choices.items k → (condition_at l (outer_context l c.entry.0)).mode ≡ None
  row-alone k c h =
      let e = choice-at l k c (sym h) in
      let is = e.1 in
      ap (λ n. (condition_at l (outer_context l n)).mode) is.entry ∙ choice-alone l (e.0) is.there is.begins

  -- what a choice depends on: its own lines, and what is outside
  pub dependency-is : (c : Choice) → (condition_at l (outer_context l c.entry.0)).mode ≡ None →
      table.condition t (choice_dependency l c) ≡ lesser (table.and_value t (filter_map dependency_in (said_at l c.entry.0))) (table.context t (outer_context l c.entry.0))
  dependency-is c m =
      let around = (condition_at l (outer_context l c.entry.0)).conjuncts in
      let own = filter_map dependency_in (said_at l c.entry.0) in
      condition-plain t.tree.now (known_at t) (choice_dependency l c) refl
      ∙ and_value-append t.tree.now (known_at t) around own
      ∙ lesser_comm (table.and_value t around) (table.and_value t own)
      ∙ ap (lesser (table.and_value t own)) (sym (context-plain (outer_context l c.entry.0) m))

  -- ---- Menus
  -- what a menu asks of what is visible comes behind what those outside ask
  record IsStep (v : ℕ) : Type 0 where
    asks : table.visible_context t (suc v) ≡ lesser (table.visible_context t (outer_visible l (visible_menu l (suc v)))) (table.and_value t (filter_map visible_in (said_at l (visible_menu l (suc v)))))
    before : outer_visible l (visible_menu l (suc v)) ≤ v

  menu-step : (v : ℕ) → (v < length l.visibles.items) ⊎ (length l.visibles.items ≤ v) → IsStep v
  menu-step v (inl b) =
      let m = menu-at l v b in
      let is = (m.1).is in
      let low = outer_visible-before l v (m.0) (m.1) in
      record {
        asks =
            ap (table.and_value t) (visible-step l v (m.0) (m.1))
            ∙ and_value-append t.tree.now (known_at t) (visible_at l (outer_visible l (suc (m.0)))) (filter_map visible_in (said_by l.entries (m.0)))
            ∙ sym (ap (λ n. lesser (table.visible_context t (outer_visible l n)) (table.and_value t (filter_map visible_in (said_at l n)))) is);
        before = subst (λ n. outer_visible l n ≤ v) (sym is) low;
      }
  menu-step v (inr b) =
      let none : visible_menu l (suc v) ≡ 0 = ap (λ (o : Option EntryId). elim o [ None ↦ 0 | Some m ↦ m.0 ]) (slice_get_past l.visibles.items v b) in
      record {
        asks =
            ap (table.and_value t) (visible-past l v b)
            ∙ sym (ap (λ n. lesser (table.visible_context t (outer_visible l n)) (table.and_value t (filter_map visible_in (said_at l n)))) none);
        before = subst (λ n. outer_visible l n ≤ v) (sym none) (omega arith);
      }

  pub visible-before : (v : ℕ) → is_some (unstored v) ≡ true → outer_visible l (visible_menu l v) < v
  visible-before zero h = absurd cc
  visible-before (suc v) h = let low = (menu-step v (cases_lt v (length l.visibles.items))).before in omega (arith, low)

  pub visible-walk : (v : ℕ) (menu : ℕ) (own : List AttributeLine) (least next result : Tri) (outer : ℕ) → is_some (unstored v) ≡ true → menu ≡ visible_menu l v → own ≡ own_at l menu →
      next ≡ lesser least (table.and_value t (filter_map visible_in (statements_of own))) → outer ≡ outer_visible l menu →
      lesser least (table.visible_context t v) ≡ result → lesser next (table.visible_context t outer) ≡ result
  visible-walk zero menu own least next result outer h m o is q before = absurd cc
  visible-walk (suc v) menu own least next result outer h m o is q before =
      let asked : ℕ → Tri = λ n. table.and_value t (filter_map visible_in (said_at l n)) in
      (λ j. lesser ((is ∙ ap (λ r. lesser least (table.and_value t (filter_map visible_in (statements_of r)))) o ∙ ap (λ n. lesser least (asked n)) m) j) (table.visible_context t ((q ∙ ap (outer_visible l) m) j)))
      ∙ lesser-step least (asked (visible_menu l (suc v))) (table.visible_context t (outer_visible l (visible_menu l (suc v)))) (table.visible_context t (suc v)) result
      (menu-step v (cases_lt v (length l.visibles.items))).asks before
