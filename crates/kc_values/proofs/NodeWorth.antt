-- What a node is worth depends only on what the nodes in its row are worth.
use Rattle.std.proofs.{Common.{Bool, List, None, Option, Some, [], ap, append-nil, arith, cond, false, inl, inr, is_some, length, map, nat_lt, refl, reverse, subst, suc, sym, true, zero, ℕ, ◌&&◌, ◌++◌, ◌<◌, ◌==◌, ◌||◌, ◌∙◌, ◌∷◌, ◌≡◌, ◌≤◌}, lemmas.{Bool.{cases_lt, eq-eqb, ltb-true, true≢false}, Option.{slice_get_past, slice_get_within}}}
use Rattle.std.specs.{List.{AllByRecursion, filter_map, flat_map}, Option.option_and_then, Prelude.{filter, option_map, slice_get, ◌⊎◌}}
use Rattle.kc_expr.specs.Value.{DependsOnSymbols}
use Rattle.kc_language.specs.{Expressions.{Form, SymbolValue, TextValue, Truth, leaf_symbols, lesser, symbol, symbols}, Needs.needs_in, Statements.{ChoiceLine, IfLine, InputPrompt, Numbered}, Symbols.{Bounds, Condition, Guarded, StatedDefault, SymbolFacts, TreeFacts, choice_number as number_of, dependency_in, is_symbol_of, range_in, single_symbol, stated_default, visible_in}, Values.{ChoicePlace, GivenValue, UserPlace, and_value, choice_at, equation, equations, facts, known_from, mode_of, name, selected, upgrade, user_place}, declared.{expressions.{SymId.SymId, SymbolType.{SymbolType, TheVariants.{Bool as IsBool, Hex, Int, Str, Tristate, Undefined}}, Tri.TheVariants.{N, Y}}, symbols.{ChoiceId.ChoiceId, SelectOrImply.SelectOrImply}}}
use Rattle.kc_language.specs.declared.symbols.SelectOrImply.TheVariants as word
use Rattle.kc_order.specs.Graph.{Nodes}
use Rattle.kc_entries.specs.{StatementViews.head_view, declared.entries.Entry.Entry}
use Rattle.kc_entries.proofs.PlaceLemmas.{there_in}
use Rattle.kc_tree.specs.{EntryViews.{definitions_from, entry_count, head_at, index_of, is_choice_line, said_by, statements_in}, Layouts.{DefinitionFacts, IsLayoutOf, choice_dependency, choice_facts, condition_at, default_view, definition_facts, entry_at, facts_of, is_member, lines_up_to, member_default, member_named, outer_context, outer_visible, place_of, prompt_in, prompt_view, range_view, said_at, selector_facts, selectors_up_to, symbol_at, target_in, visible_at, visible_menu, with_conjuncts, with_when}, Places.{mode_view, says}, declared.{layout.Layout.Layout, rows.{Choice.Choice, EntryPlace.EntryPlace, Selector.Selector, Symbol.Symbol}}}
use Rattle.kc_tree.proofs.{ChoiceLemmas.{choice-alone, choice-at, choice-there}, LayoutWalks.{definitions-first, implies-last, selects-last}, OuterLemmas.{condition-step, context-again, entry-there, in_entry, place-past}, VisibleLemmas.{menu-at, visible-step}}
use Rattle.kc_values.specs.NeedRows as rows
use Rattle.kc_values.specs.{Computed.{dependency_of, when_value}, NeedRows.{AreNodeRows, Needed, both, each, named, node, where_true}, NodeWorth.{IsRowAlike, IsWorthAlike, ReadRows}, Nodes.{IsNode, choice_number, context_number, dependency_number, visible_number}, PartsOfValues.{by_choice, is_mentioned, prompt_value, user_place_by, user_place_of, visible_facts}, declared.nodes.Node.Node}
use Rattle.kc_values.specs.PartsOfNeeds as spec_parts
use Rattle.kc_values.specs.declared.nodes.Node.TheVariants as of_node
use Rattle.kc_values.proofs.{AllLemmas.{OfSome, all_contained, all_flat, all_found, all_kept, all_map, all_reverse, all_same, all_saying, all_two, in_flat}, ConditionLemmas.{and_value-append, condition-plain, condition-with_conjuncts, condition-with_when}, GraphNeeds.{row_of_choice, row_of_context, row_of_dependency, row_of_symbol, row_of_visible}, Laid.{choices_laid, facts_laid, symbols_count}, OnlyNamed.seen_mentioned, PlacesThere.{context_there, visible_there}, RowNeeds.apart, Same.{back_of, front_of}}
use Rattle.kc_values.proofs.ReadAlike as read

module _ (law : DependsOnSymbols) (tree : TreeFacts) (l : Layout) (laid : IsLayoutOf tree l) (chosen : ℕ → Option GivenValue) (V W : ℕ → SymbolValue) where
  abbrev k : SymId → SymbolValue
  k = known_from tree V

  abbrev k' : SymId → SymbolValue
  k' = known_from tree W

  abbrev Sames : List SymId → Type 0
  Sames ss = read.Sames law tree k k' ss

  abbrev SameCondition : Condition → Type 0
  SameCondition c = read.SameCondition law tree k k' c

  abbrev SameForms : List Form → Type 0
  SameForms fs = and_value tree k fs ≡ and_value tree k' fs

  abbrev SamePrompt : Option Condition → Type 0
  SamePrompt o = prompt_value tree k o ≡ prompt_value tree k' o

  abbrev SameGuarded : {X : Type 0} → (X → List SymId) → Guarded X → Type 0
  SameGuarded names g = read.SameGuarded law tree k k' names g

  -- ---- Parts of rows
  -- the node with a number, and what a row needs
  abbrev IsAlike : ℕ → Type 0
  IsAlike t = (m : Node) → IsNode l t m → IsWorthAlike tree l chosen V W m

  record AreAlike (n : Needed) : Type 0 where
    nodes : AllByRecursion IsAlike n.nodes
    names : Sames n.names

  first : (a b : Needed) → AreAlike (both a b) → AreAlike a
  first a b h = record { nodes = front_of IsAlike a.nodes b.nodes h.nodes; names = read.front law tree k k' a.names b.names h.names }

  second : (a b : Needed) → AreAlike (both a b) → AreAlike b
  second a b h = record { nodes = back_of IsAlike a.nodes b.nodes h.nodes; names = read.back law tree k k' a.names b.names h.names }

  where_alike : (t : Bool) (n : Needed) → t ≡ true → AreAlike (where_true t n) → AreAlike n
  where_alike true n e h = h
  where_alike false n e h = absurd (true≢false (sym e))

  each_alike : {X : Type 0} (f : X → Needed) (xs : List X) → AreAlike (each f xs) → AllByRecursion (λ x. AreAlike (f x)) xs
  each_alike f [] h = tt
  each_alike f (x ∷ xs) h = (first (f x) (each f xs) (record { nodes = h.nodes; names = h.names }), each_alike f xs (second (f x) (each f xs) (record { nodes = h.nodes; names = h.names })))

  names_alike : (ss : List SymId) → AllByRecursion IsAlike (rows.numbers l ss) → Sames ss
  names_alike [] h = tt
  names_alike (s ∷ ss) h =
      let count = length l.symbols.items in
      let there = λ (x : SymId). nat_lt x.0 count in
      let is = all_kept IsAlike (λ (x : SymId). x.0) (there s) s (filter there ss) h in
      let one : nat_lt s.0 count ≡ true → V s.0 ≡ W s.0 = λ e. is.0 e (of_node.Symbol s) (refl, ltb-true s.0 count e) in (
        seen_mentioned (is_mentioned tree s) (V s.0) (W s.0) (TextValue Undefined (name tree s)) (λ e. one (sym (ap (λ n. nat_lt s.0 n) (symbols_count tree l laid)) ∙ e)),
        names_alike ss (is.1),
      )

  row_alike : (g : Nodes) (n : ℕ) (need : Needed) → needs_in g.rows n ≡ rows.row_of l need → IsRowAlike tree l chosen V W g n → AreAlike need
  row_alike g n need e h =
      let all = subst (AllByRecursion IsAlike) e (all_contained IsAlike (needs_in g.rows n) (λ t c m is. h t m c is)) in
      record { nodes = front_of IsAlike need.nodes (rows.numbers l need.names) all; names = names_alike need.names (back_of IsAlike need.nodes (rows.numbers l need.names) all) }

  -- ---- Conditions
  tree_form : (f : Form) → Sames (symbols l.modules f) → Sames (symbols tree.modules f)
  tree_form f h = subst (λ m. Sames (symbols m f)) (sym laid.modules) h

  when_alike : (w : Option Form) → Sames (rows.when_names l.modules w) → when_value tree k w ≡ when_value tree k' w
  when_alike None h = refl
  when_alike (Some f) h = read.same_value law tree k k' f (tree_form f h)

  -- what lines ask for
  said_alike : (f : Numbered → Option Form) (own : List Numbered) → Sames (flat_map (λ line. rows.when_names l.modules (f line)) own) → SameForms (filter_map f own)
  said_alike f own h =
      let names : Numbered → List SymId = λ line. rows.when_names l.modules (f line) in
      let Is : Form → Type 0 = λ g. Sames (symbols tree.modules g) in
      read.same_and_value law tree k k' (filter_map f own)
      (all_found Is f own (all_same (λ line. Sames (names line)) (λ line. OfSome Is (f line)) (λ line s. by (f line) s) own (in_flat (read.Same law tree k k') names own h)))
    where
      by : (o : Option Form) → Sames (rows.when_names l.modules o) → OfSome (λ g. Sames (symbols tree.modules g)) o
      by None s = tt
      by (Some g) s = tree_form g s

  append_alike : (ps qs : List Form) → SameForms ps → SameForms qs → SameForms (ps ++ qs)
  append_alike ps qs a b = and_value-append tree k ps qs ∙ (λ j. lesser (a j) (b j)) ∙ sym (and_value-append tree k' ps qs)

  more_alike : (c : Condition) (fs : List Form) → SameCondition c → SameForms fs → SameCondition (with_conjuncts c fs)
  more_alike c fs a b = condition-with_conjuncts tree k c fs ∙ (λ j. lesser (a j) (b j)) ∙ sym (condition-with_conjuncts tree k' c fs)

  guarded_alike : (c : Condition) (w : Option Form) → SameCondition c → Sames (rows.when_names l.modules w) → SameCondition (with_when c w)
  guarded_alike c w a h = let b = when_alike w h in condition-with_when tree k c w ∙ (λ j. lesser (a j) (b j)) ∙ sym (condition-with_when tree k' c w)

  -- where no mode counts
  plain_alike : (c : Condition) → c.mode ≡ None → SameCondition c → SameForms c.conjuncts
  plain_alike c e a = sym (condition-plain tree k c e) ∙ a ∙ condition-plain tree k' c e

  alone_alike : (fs : List Form) → SameForms fs → SameCondition (record { conjuncts = fs; mode = None })
  alone_alike fs a = ap (λ t. lesser t Y) a

  -- ---- Menus and contexts
  later : (i : ℕ) → (suc i == 0) ≡ false
  later i = grind arith

  not_first : (i t : ℕ) → AllByRecursion IsAlike (cond (suc i == 0) [] (t ∷ [])) → IsAlike t
  not_first i t h = (subst (λ b. AllByRecursion IsAlike (cond b [] (t ∷ []))) (later i) h).0

  visible_needed : (n : ℕ) → n ≤ length l.visibles.items → AreAlike (rows.visible l n) → SameForms (visible_at l n)
  visible_needed zero b h = refl
  visible_needed (suc u) b h = not_first u (visible_number l (suc u)) h.nodes (of_node.Visible (record { 0 = suc u })) (refl, b)

  context_needed : (at : ℕ) → at ≤ length l.places.items → (place_of l at).context.0 ≡ at → AreAlike (rows.context l at) → SameCondition (condition_at l at)
  context_needed zero b own h = refl
  context_needed (suc e) b own h = not_first e (context_number l (suc e)) h.nodes (of_node.Context (record { 0 = suc e })) (refl, b) own

  -- the context of an entry
  entry_alike : (at : ℕ) → AreAlike (rows.context l (place_of l at).context.0) → SameCondition (condition_at l (place_of l at).context.0)
  entry_alike zero h = refl
  entry_alike (suc e) h = by (cases_lt e (entry_count l.entries))
    where
      by : (e < entry_count l.entries) ⊎ (entry_count l.entries ≤ e) → SameCondition (condition_at l (place_of l (suc e)).context.0)
      by (inl b) = context_needed (place_of l (suc e)).context.0 (context_there l (suc e)) (context-again l (suc e) (omega (arith, b))) h
      by (inr b) = subst (λ (p : EntryPlace). SameCondition (condition_at l p.context.0)) (sym (place-past l e b)) refl

  prompt_alike : (c : Condition) (at : ℕ) (q : InputPrompt Form) → SameCondition c → AreAlike (rows.prompt l (place_of l at) q) →
      SameCondition (prompt_view c (visible_at l (place_of l at).visible.0) q)
  prompt_alike c at q a h =
      let n = (place_of l at).visible.0 in
      let when = named (rows.when_names l.modules q.when) in
      guarded_alike (with_conjuncts c (visible_at l n)) q.when (more_alike c (visible_at l n) a (visible_needed n (visible_there l at) (first (rows.visible l n) when h)))
      (second (rows.visible l n) when h).names

  -- of a choice, whose conjuncts alone count
  choice_prompt_alike : (c : Condition) (at : ℕ) (q : InputPrompt Form) → c.mode ≡ None → SameCondition c → AreAlike (rows.prompt l (place_of l at) q) →
      SamePrompt (Some (prompt_view c (visible_at l (place_of l at).visible.0) q))
  choice_prompt_alike c at q e a h = plain_alike (prompt_view c (visible_at l (place_of l at).visible.0) q) e (prompt_alike c at q a h)

  menu_alike : (v : ℕ) → v ≤ length l.visibles.items → AreAlike (rows.visible_row l (visible_menu l v)) → SameForms (visible_at l v)
  menu_alike zero b h = refl
  menu_alike (suc u) b h =
      let m = menu-at l u (omega (arith, b)) in
      let outer = outer_visible l (suc (m.0)) in
      let own = named (flat_map (λ line. rows.when_names l.modules (visible_in line)) (said_at l (suc (m.0)))) in
      let row = subst (λ menu. AreAlike (rows.visible_row l menu)) ((m.1).is) h in
      subst SameForms (sym (visible-step l u (m.0) (m.1)))
      (append_alike (visible_at l outer) (filter_map visible_in (said_by l.entries (m.0)))
      (visible_needed outer (visible_there l (place_of l (suc (m.0))).outer.0) (first (rows.visible l outer) own row))
      (said_alike visible_in (said_by l.entries (m.0)) (second (rows.visible l outer) own row).names))

  -- what a choice depends on itself
  itself_alike : (c : Condition) (own : List Numbered) → c.mode ≡ None → SameCondition c → AreAlike (rows.depends l own) →
      SameCondition (record { conjuncts = c.conjuncts ++ filter_map dependency_in own; mode = None })
  itself_alike c own e a h =
      alone_alike (c.conjuncts ++ filter_map dependency_in own) (append_alike c.conjuncts (filter_map dependency_in own) (plain_alike c e a) (said_alike dependency_in own h.names))

  -- one entry
  asked_alike : (e : ℕ) (s : Numbered) → e < entry_count l.entries → head_at l.entries e ≡ Some s → SameCondition (condition_at l (outer_context l (suc e))) →
      AreAlike (rows.asked l (place_of l (suc e)) s (said_by l.entries e)) →
      SameCondition (in_entry (condition_at l (outer_context l (suc e))) (Some s) (said_by l.entries e) (number_of (statements_in l.entries) (index_of l.entries e)))
  asked_alike e (IfLine f) b q a h = more_alike (condition_at l (outer_context l (suc e))) (f ∷ []) a (read.same_and_value law tree k k' (f ∷ []) (tree_form f h.names, tt))
  asked_alike e ChoiceLine b q a h = λ j. lesser (subst SameForms (sym (append-nil c.conjuncts)) (plain_alike c alone a) j) (mode j)
    where
      c : Condition
      c = condition_at l (outer_context l (suc e))

      n : ℕ
      n = number_of (statements_in l.entries) (index_of l.entries e)

      alone : c.mode ≡ None
      alone = choice-alone l e b (ap is_choice_line q)

      prompt_at : ℕ → Option Condition
      prompt_at at =
          let d : Condition = record { conjuncts = (condition_at l (outer_context l at)).conjuncts ++ filter_map dependency_in (said_at l at); mode = None } in
          option_map (prompt_view d (visible_at l (place_of l at).visible.0)) (prompt_in l (place_of l at))

      by : (o : Option (InputPrompt Form)) → AreAlike (rows.mode_by l (place_of l (suc e)) (said_by l.entries e) o) →
          SamePrompt (option_map (prompt_view (record { conjuncts = c.conjuncts ++ filter_map dependency_in (said_by l.entries e); mode = None }) (visible_at l (place_of l (suc e)).visible.0)) o)
      by None h = refl
      by (Some p) h =
          let own = said_by l.entries e in
          let prompt = rows.prompt l (place_of l (suc e)) p in
          choice_prompt_alike (record { conjuncts = c.conjuncts ++ filter_map dependency_in own; mode = None }) (suc e) p refl (itself_alike c own alone a (first (rows.depends l own) prompt h))
          (second (rows.depends l own) prompt h)

      mode : mode_of tree k (choice_at tree n) ≡ mode_of tree k' (choice_at tree n)
      mode =
          let begun = choice-there l e b (ap is_choice_line q) in
          let is : choice_at tree n ≡ Some (choice_facts l n begun.row) = choices_laid tree l laid n ∙ ap (option_map (choice_facts l n)) begun.at in
          let prompt : SamePrompt (prompt_at begun.row.entry.0) = subst (λ at. SamePrompt (prompt_at at)) (sym begun.entry) (by (prompt_in l (place_of l (suc e))) h) in
          subst (λ o. mode_of tree k o ≡ mode_of tree k' o) (sym is) (ap upgrade prompt)
  asked_alike e _ b q a h = more_alike (condition_at l (outer_context l (suc e))) (filter_map dependency_in (said_by l.entries e)) a (said_alike dependency_in (said_by l.entries e) h.names)

  own_context_alike : (at : ℕ) → at ≤ length l.places.items → (place_of l at).context.0 ≡ at → AreAlike (rows.context_row l at) → SameCondition (condition_at l at)
  own_context_alike zero b own h = refl
  own_context_alike (suc e) b own h =
      let there : e < entry_count l.entries = omega (arith, b, l.laid.count) in
      let x = entry-there l e there in
      let head : head_at l.entries e ≡ Some (head_view (x.0).head) = ap (option_map (λ (y : Entry). head_view y.head)) (x.1) in
      let o = outer_context l (suc e) in
      let asks = rows.asked l (place_of l (suc e)) (head_view (x.0).head) (said_at l (suc e)) in
      let row = where_alike ((place_of l (suc e)).context.0 == suc e) (rows.context_by l (suc e) (entry_at l (suc e))) (eq-eqb (place_of l (suc e)).context.0 (suc e) own) h in
      let parts : AreAlike (both (rows.context l o) asks) = subst (λ y. AreAlike (rows.context_by l (suc e) y)) (x.1) row in
      subst SameCondition
      (sym (condition-step l e there ∙ ap (λ y. in_entry (condition_at l o) y (said_by l.entries e) (number_of (statements_in l.entries) (index_of l.entries e))) head))
      (asked_alike e (head_view (x.0).head) there head (entry_alike (place_of l (suc e)).outer.0 (first (rows.context l o) asks parts)) (second (rows.context l o) asks parts))

  choice_dependency_alike : (n : ℕ) (c : Choice) → slice_get l.choices.items n ≡ Some c → AreAlike (rows.dependency_row l c) → SameCondition (choice_dependency l c)
  choice_dependency_alike n c e h =
      let is = choice-at l n c e in
      let o = outer_context l c.entry.0 in
      let own = said_at l c.entry.0 in
      let alone : (condition_at l o).mode ≡ None = ap (λ at. (condition_at l (outer_context l at)).mode) ((is.1).entry) ∙ choice-alone l (is.0) ((is.1).there) ((is.1).begins) in
      itself_alike (condition_at l o) own alone (entry_alike (place_of l c.entry.0).outer.0 (first (rows.context l o) (rows.depends l own) h)) (second (rows.context l o) (rows.depends l own) h)

  -- ---- Definitions
  abbrev place_prompt : ℕ → Option (InputPrompt Form) → Option Condition
  place_prompt at o = option_map (prompt_view (condition_at l (place_of l at).context.0) (visible_at l (place_of l at).visible.0)) o

  own_prompt_alike : (at : ℕ) (o : Option (InputPrompt Form)) → AreAlike (rows.own_prompt l (place_of l at) o) → OfSome SameCondition (place_prompt at o)
  own_prompt_alike at None h = tt
  own_prompt_alike at (Some q) h =
      let c = (place_of l at).context.0 in
      let prompt = rows.prompt l (place_of l at) q in
      prompt_alike (condition_at l c) at q (entry_alike at (first (rows.context l c) prompt h)) (second (rows.context l c) prompt h)

  asking_alike : (reads : Bool) (at : ℕ) (o : Option (InputPrompt Form)) → AreAlike (rows.asking l reads (place_of l at) o) →
      (reads ≡ true → SameCondition (condition_at l (place_of l at).context.0)) × OfSome SameCondition (place_prompt at o)
  asking_alike reads at None h = (λ e. entry_alike at (where_alike reads (rows.context l (place_of l at).context.0) e h), tt)
  asking_alike reads at (Some q) h =
      let c = (place_of l at).context.0 in
      let prompt = rows.prompt l (place_of l at) q in
      (λ e. entry_alike at (first (rows.context l c) prompt h), own_prompt_alike at (Some q) h)

  module _ (c : Condition) (own : List Numbered) where
    defaults_alike : (counts : Bool) → (says stated_default own ≡ true → SameCondition c) → Sames (flat_map (rows.line_names l.modules counts) own) →
        AllByRecursion (SameGuarded (symbols tree.modules)) (map (default_view c) (filter_map stated_default own))
    defaults_alike counts said h =
        let Is : StatedDefault → Type 0 = λ d. SameGuarded (symbols tree.modules) (default_view c d) in
        let Said : Numbered → Type 0 = λ line. is_some (stated_default line) ≡ true → SameCondition c in
        let Named : Numbered → Type 0 = λ line. Sames (rows.line_names l.modules counts line) in
        all_map (SameGuarded (symbols tree.modules)) (default_view c) (filter_map stated_default own)
        (all_found Is stated_default own
        (all_same (λ line. Said line × Named line) (λ line. OfSome Is (stated_default line)) (λ line is. by (stated_default line) (range_in line) (is.0) (is.1)) own
        (all_two Said Named own (all_saying (SameCondition c) stated_default own said) (in_flat (read.Same law tree k k') (rows.line_names l.modules counts) own h))))
      where
        by : (d : Option StatedDefault) (r : Option (Bounds × Option Form)) → (is_some d ≡ true → SameCondition c) → Sames (rows.names_of_line l.modules counts d r) →
            OfSome (λ d. SameGuarded (symbols tree.modules) (default_view c d)) d
        by None r s h = tt
        by (Some d) r s h =
            let value = symbols l.modules d.value in
            let when = rows.when_names l.modules d.when in
            (tree_form d.value (read.front law tree k k' value when h), guarded_alike c d.when (s refl) (read.back law tree k k' value when h))

    ranges_alike : (says range_in own ≡ true → SameCondition c) → Sames (flat_map (rows.line_names l.modules true) own) →
        AllByRecursion (SameGuarded spec_parts.bounds_names) (map (range_view c) (filter_map range_in own))
    ranges_alike said h =
        let Is : Bounds × Option Form → Type 0 = λ r. SameGuarded spec_parts.bounds_names (range_view c r) in
        let Said : Numbered → Type 0 = λ line. is_some (range_in line) ≡ true → SameCondition c in
        let Named : Numbered → Type 0 = λ line. Sames (rows.line_names l.modules true line) in
        all_map (SameGuarded spec_parts.bounds_names) (range_view c) (filter_map range_in own)
        (all_found Is range_in own
        (all_same (λ line. Said line × Named line) (λ line. OfSome Is (range_in line)) (λ line is. by (stated_default line) (range_in line) (apart line) (is.0) (is.1)) own
        (all_two Said Named own (all_saying (SameCondition c) range_in own said) (in_flat (read.Same law tree k k') (rows.line_names l.modules true) own h))))
      where
        by : (d : Option StatedDefault) (r : Option (Bounds × Option Form)) → (is_some d ≡ true → r ≡ None) → (is_some r ≡ true → SameCondition c) → Sames (rows.names_of_line l.modules true d r) →
            OfSome (λ r. SameGuarded spec_parts.bounds_names (range_view c r)) r
        by None None a s h = tt
        by (Some d) None a s h = tt
        by (Some d) (Some r) a s h = absurd (let no = a refl in cc)
        by None (Some r) a s h =
            let bounds = leaf_symbols r.0.low ++ leaf_symbols r.0.high in
            let when = rows.when_names l.modules (r.1) in
            (read.front law tree k k' bounds when h, guarded_alike c (r.1) (s refl) (read.back law tree k k' bounds when h))

  record IsDefinition (t : SymbolType) (e : ℕ) : Type 0 where
    prompt : OfSome SameCondition (definition_facts l e).prompt
    defaults : AllByRecursion (SameGuarded (symbols tree.modules)) (definition_facts l e).defaults
    dependency : rows.is_truth t ≡ true → SameCondition (definition_facts l e).dependency
    ranges : rows.is_number t ≡ true → AllByRecursion (SameGuarded spec_parts.bounds_names) (definition_facts l e).ranges

  definition_alike : (t : SymbolType) (e : ℕ) → AreAlike (rows.definition l t (suc e)) → IsDefinition t e
  definition_alike t e h =
      let p = place_of l (suc e) in
      let own = said_at l (suc e) in
      let c = condition_at l p.context.0 in
      let reads = rows.is_read l t own in
      let ask = rows.asking l reads p (prompt_in l p) in
      let lines = named (flat_map (rows.line_names l.modules (rows.is_number t)) own) in
      let a = asking_alike reads (suc e) (prompt_in l p) (first ask lines h) in
      let names = (second ask lines h).names in
      record {
        prompt = a.1;
        defaults = defaults_alike c own (rows.is_number t) (λ s. a.0 (default_read (rows.is_truth t) (says stated_default own) (says range_in own && rows.is_number t) s)) names;
        dependency = λ s. a.0 (ap (λ b. b || (says stated_default own || (says range_in own && rows.is_number t))) s);
        ranges = λ n. ranges_alike c own (λ s. a.0 (range_read (rows.is_truth t) (says stated_default own) (says range_in own) (rows.is_number t) s n))
            (subst (λ b. Sames (flat_map (rows.line_names l.modules b) own)) n names);
      }
    where
      default_read : (t s r : Bool) → s ≡ true → (t || (s || r)) ≡ true
      default_read t s r e = grind arith

      range_read : (t s r n : Bool) → r ≡ true → n ≡ true → (t || (s || (r && n))) ≡ true
      range_read t s r n e f = grind arith

  -- ---- Lines that select or imply
  selector_alike : (o : Option Selector) → AreAlike (rows.selector_at l o) → OfSome (SameGuarded spec_parts.one_name) (option_and_then (selector_facts l) o)
  selector_alike None h = tt
  selector_alike (Some r) h = by (symbol_at l r.entry.0) (target_in l r) h
    where
      by : (s : Option SymId) (t : Option (SelectOrImply × SymId × Option Form)) → AreAlike (rows.selector_by l (place_of l r.entry.0) s t) →
          OfSome (SameGuarded spec_parts.one_name) (option_and_then (λ s. option_map (λ t. record { what = s; when = with_when (condition_at l (place_of l r.entry.0).context.0) (t.2) }) t) s)
      by None t h = tt
      by (Some s) None h = tt
      by (Some s) (Some t) h =
          let c = (place_of l r.entry.0).context.0 in
          let stands = both (named (s ∷ [])) (rows.context l c) in
          let when = named (rows.when_names l.modules (t.2)) in
          let here = first stands when h in
          let itself = named (s ∷ []) in (
            (first itself (rows.context l c) here).names,
            guarded_alike (condition_at l c) (t.2) (entry_alike r.entry.0 (second itself (rows.context l c) here)) (second stands when h).names,
          )

  selectors_alike : (w : SelectOrImply) (s : SymId) (at : ℕ) → AreAlike (rows.selectors l w s at) → AllByRecursion (SameGuarded spec_parts.one_name) (selectors_up_to l w s at)
  selectors_alike w s at h =
      let js = lines_up_to l w s at in
      let one : ℕ → Needed = λ j. rows.selector_at l (slice_get l.selectors.items j) in
      let found : ℕ → Option (Guarded SymId) = λ j. option_and_then (selector_facts l) (slice_get l.selectors.items j) in
      all_found (SameGuarded spec_parts.one_name) found js
      (all_same (λ j. AreAlike (one j)) (λ j. OfSome (SameGuarded spec_parts.one_name) (found j)) (λ j. selector_alike (slice_get l.selectors.items j)) js
      (all_reverse (λ j. AreAlike (one j)) js (each_alike one (reverse js) h)))

  -- ---- Symbols
  module _ (i : ℕ) (row : Symbol) (e : slice_get l.symbols.items i ≡ Some row) where
    abbrev f : SymbolFacts
    f = facts_of l i row

    abbrev ds : List ℕ
    ds = definitions_from l.entries (symbol i) 0

    prompts_alike : AreAlike (rows.prompts l (symbol i) row.first.0) → AllByRecursion SameCondition f.prompts
    prompts_alike h =
        let one : ℕ → Needed = λ n. rows.own_prompt l (place_of l (suc n)) (prompt_in l (place_of l (suc n))) in
        let prompt : DefinitionFacts → Option Condition = λ d. d.prompt in
        all_found SameCondition prompt (map (definition_facts l) ds)
        (all_map (λ d. OfSome SameCondition (prompt d)) (definition_facts l) ds
        (all_same (λ n. AreAlike (one n)) (λ n. OfSome SameCondition (prompt (definition_facts l n))) (λ n. own_prompt_alike (suc n) (prompt_in l (place_of l (suc n)))) ds
        (each_alike one ds (subst (λ es. AreAlike (each one es)) (definitions-first l i row e) h))))

    module _ (t : SymbolType) (h : AreAlike (rows.definitions l t (symbol i) row.first.0)) where
      all_definitions : AllByRecursion (IsDefinition t) ds
      all_definitions =
          let one : ℕ → Needed = λ n. rows.definition l t (suc n) in
          all_same (λ n. AreAlike (one n)) (IsDefinition t) (definition_alike t) ds (each_alike one ds (subst (λ es. AreAlike (each one es)) (definitions-first l i row e) h))

      each_of : {X : Type 0} (P : X → Type 0) (of : DefinitionFacts → List X) → ((n : ℕ) → IsDefinition t n → AllByRecursion P (of (definition_facts l n))) →
          AllByRecursion P (flat_map of (map (definition_facts l) ds))
      each_of P of is =
          all_flat P of (map (definition_facts l) ds)
          (all_map (λ d. AllByRecursion P (of d)) (definition_facts l) ds (all_same (IsDefinition t) (λ n. AllByRecursion P (of (definition_facts l n))) is ds all_definitions))

      common_alike : read.AreSame law tree k k' f
      common_alike =
          let prompt : DefinitionFacts → Option Condition = λ d. d.prompt in
          record {
            prompts = all_found SameCondition prompt (map (definition_facts l) ds)
                (all_map (λ d. OfSome SameCondition (prompt d)) (definition_facts l) ds
                (all_same (IsDefinition t) (λ n. OfSome SameCondition (prompt (definition_facts l n))) (λ n is. is.prompt) ds all_definitions));
            defaults = each_of (SameGuarded (symbols tree.modules)) (λ d. d.defaults) (λ n is. is.defaults);
          }

      dependencies_alike : rows.is_truth t ≡ true → AllByRecursion SameCondition f.dependencies
      dependencies_alike a =
          let dependency : DefinitionFacts → Condition = λ d. d.dependency in
          all_map SameCondition dependency (map (definition_facts l) ds)
          (all_map (λ d. SameCondition (dependency d)) (definition_facts l) ds
          (all_same (IsDefinition t) (λ n. SameCondition (dependency (definition_facts l n))) (λ n is. is.dependency a) ds all_definitions))

      numbers_alike : rows.is_number t ≡ true → read.AreSameNumbers law tree k k' f
      numbers_alike a = record { common = common_alike; ranges = each_of (SameGuarded spec_parts.bounds_names) (λ d. d.ranges) (λ n is. is.ranges a) }

    truth_alike : rows.is_truth row.symbol_type ≡ true → AreAlike (rows.truth tree l (symbol i) row) → read.AreSameTruths law tree k k' f
    truth_alike a h =
        let defs = rows.definitions l row.symbol_type (symbol i) row.first.0 in
        let selects = rows.selectors l word.Select (symbol i) row.last_select.0 in
        let implies = rows.selectors l word.Imply (symbol i) row.last_imply.0 in
        let own = named (spec_parts.type_names tree row.symbol_type) in
        let lines = first (both (both defs selects) implies) own h in
        let these = first (both defs selects) implies lines in
        let found : List ℕ → List (Guarded SymId) = λ js. filter_map (λ j. option_and_then (selector_facts l) (slice_get l.selectors.items j)) js in
        let Are : List ℕ → Type 0 = λ js. AllByRecursion (SameGuarded spec_parts.one_name) (found js) in
        record {
          common = common_alike row.symbol_type (first defs selects these);
          dependencies = dependencies_alike row.symbol_type (first defs selects these) a;
          selectors = subst Are (selects-last l i row e) (selectors_alike word.Select (symbol i) row.last_select.0 (second defs selects these));
          impliers = subst Are (implies-last l i row e) (selectors_alike word.Imply (symbol i) row.last_imply.0 (second (both defs selects) implies lines));
          own = (second (both (both defs selects) implies) own h).names;
        }

    by_type_alike : (t : SymbolType) → row.symbol_type ≡ t → AreAlike (rows.by_type tree l (symbol i) row t) → read.AreSameBy law tree k k' f t
    by_type_alike Undefined q h = tt
    by_type_alike IsBool q h = truth_alike (ap rows.is_truth q) h
    by_type_alike Tristate q h = truth_alike (ap rows.is_truth q) h
    by_type_alike Str q h = common_alike row.symbol_type h
    by_type_alike Int q h = numbers_alike row.symbol_type h (ap rows.is_number q)
    by_type_alike Hex q h = numbers_alike row.symbol_type h (ap rows.is_number q)

    -- the equation, for two that give user values
    module _ (P Q : UserPlace → Option GivenValue) where
      by_choice_alike : (o : Option ChoiceId) → AreAlike (rows.by_choice tree l (symbol i) row o) → P (user_place_by i (mode_view o)) ≡ Q (user_place_by i (mode_view o)) →
          ((n : ℕ) → user_place_by i (mode_view o) ≡ ChoicePlace n → P (ChoicePlace n) ≡ chosen n) →
          by_choice tree k (symbol i) f (mode_view o) (P (user_place_by i (mode_view o))) ≡ by_choice tree k' (symbol i) f (mode_view o) (Q (user_place_by i (mode_view o)))
      by_choice_alike None h same at =
          ap (by_choice tree k (symbol i) f None) same
          ∙ read.same_by_type law tree k k' (symbol i) f row.symbol_type (Q (user_place_by i None)) (by_type_alike row.symbol_type refl h)
      by_choice_alike (Some c) h same at =
          let given = at c.0 refl in
          let F : Option SymId → SymbolValue = λ o. Truth (cond (is_symbol_of (symbol i) o) Y N) in
          ap F
          (ap (selected tree k (choice_at tree c.0)) given
          ∙ (h.nodes).0 (of_node.Choice c) (refl, omega arith)
          ∙ sym (ap (selected tree k' (choice_at tree c.0)) (sym same ∙ given)))

      equation_alike : AreAlike (rows.by_choice tree l (symbol i) row row.choice) → P (user_place tree i) ≡ Q (user_place tree i) →
          ((n : ℕ) → user_place tree i ≡ ChoicePlace n → P (ChoicePlace n) ≡ chosen n) → equations tree P i V ≡ equations tree Q i W
      equation_alike h =
          let Is : Option SymbolFacts → Type 0 = λ o.
          P (user_place_of i o) ≡ Q (user_place_of i o) → ((n : ℕ) → user_place_of i o ≡ ChoicePlace n → P (ChoicePlace n) ≡ chosen n) →
          equation tree k (symbol i) o (P (user_place_of i o)) ≡ equation tree k' (symbol i) o (Q (user_place_of i o)) in
          let is : facts tree (symbol i) ≡ Some f = facts_laid tree l laid i ∙ ap (option_map (facts_of l i)) e in
          subst Is (sym is) (by_choice_alike row.choice h)

  -- ---- Choices
  member_alike : (m : SymId) → AreAlike (rows.member_by l m (slice_get l.symbols.items m.0)) → read.SameVisible law tree k k' m
  member_alike m h = subst (λ o. visible_facts tree k o ≡ visible_facts tree k' o) (sym (facts_laid tree l laid m.0)) (by (slice_get l.symbols.items m.0) refl h)
    where
      by : (o : Option Symbol) → slice_get l.symbols.items m.0 ≡ o → AreAlike (rows.member_by l m o) →
          visible_facts tree k (option_map (facts_of l m.0) o) ≡ visible_facts tree k' (option_map (facts_of l m.0) o)
      by None e h = refl
      by (Some row) e h = read.same_shown law tree k k' (facts_of l m.0 row) (prompts_alike m.0 row e h)

  module _ (n : ℕ) (c : Choice) (e : slice_get l.choices.items n ≡ Some c) where
    abbrev dep : Condition
    dep = choice_dependency l c

    dependency_needed : AreAlike (node (dependency_number l n)) → SameCondition dep
    dependency_needed h =
        let is = (h.nodes).0 (of_node.Dependency (record { 0 = n })) (refl, slice_get_within l.choices.items n c e) in
        subst (λ o. dependency_of tree l k o ≡ dependency_of tree l k' o) e is

    choice_mode_alike : (o : Option (InputPrompt Form)) → AreAlike (rows.choice_mode l n (place_of l c.entry.0) o) →
        SamePrompt (option_map (prompt_view dep (visible_at l (place_of l c.entry.0).visible.0)) o)
    choice_mode_alike None h = refl
    choice_mode_alike (Some q) h =
        let prompt = rows.prompt l (place_of l c.entry.0) q in
        choice_prompt_alike dep c.entry.0 q refl (dependency_needed (first (node (dependency_number l n)) prompt h)) (second (node (dependency_number l n)) prompt h)

    abbrev Default : StatedDefault → Type 0
    Default d = OfSome (λ (g : Guarded SymId). SameCondition g.when) (member_default l n dep d)

    -- the member that a default names
    abbrev names : Option StatedDefault → Option SymId
    names o = option_and_then (λ s. cond (is_member l n s) (Some s) None) (option_and_then (λ d. single_symbol d.value) o)

    default_line : (o : Option StatedDefault) → (is_some (names o) ≡ true → SameCondition dep) → Sames (rows.names_of_default l (names o) o) → OfSome Default o
    default_line None s h = tt
    default_line (Some d) s h = by (single_symbol d.value) s h
      where
        by : (o : Option SymId) → (is_some (option_and_then (λ s. cond (is_member l n s) (Some s) None) o) ≡ true → SameCondition dep) →
            Sames (rows.names_of_default l (option_and_then (λ s. cond (is_member l n s) (Some s) None) o) (Some d)) →
            OfSome (λ (g : Guarded SymId). SameCondition g.when) (option_and_then (λ s. cond (is_member l n s) (Some (record { what = s; when = with_when dep d.when })) None) o)
        by None s h = tt
        by (Some m) s h = one (is_member l n m) s h
          where
            one : (b : Bool) → (is_some (cond b (Some m) None) ≡ true → SameCondition dep) → Sames (rows.names_of_default l (cond b (Some m) None) (Some d)) →
                OfSome (λ (g : Guarded SymId). SameCondition g.when) (cond b (Some (record { what = m; when = with_when dep d.when })) None)
            one true s h = guarded_alike dep d.when (s refl) h
            one false s h = tt

    choice_defaults_alike : (own : List Numbered) → AreAlike (rows.choice_defaults l n own) →
        AllByRecursion (λ (g : Guarded SymId). SameCondition g.when) (filter_map (member_default l n dep) (filter_map stated_default own))
    choice_defaults_alike own h =
        let lines = named (flat_map (rows.choice_default_names l n) own) in
        let itself = where_true (says (member_named l n) own) (node (dependency_number l n)) in
        let Said : Numbered → Type 0 = λ line. is_some (member_named l n line) ≡ true → SameCondition dep in
        let Named : Numbered → Type 0 = λ line. Sames (rows.choice_default_names l n line) in
        all_found (λ (g : Guarded SymId). SameCondition g.when) (member_default l n dep) (filter_map stated_default own)
        (all_found Default stated_default own
        (all_same (λ line. Said line × Named line) (λ line. OfSome Default (stated_default line)) (λ line is. default_line (stated_default line) (is.0) (is.1)) own
        (all_two Said Named own
        (all_saying (SameCondition dep) (member_named l n) own (λ s. dependency_needed (where_alike (says (member_named l n) own) (node (dependency_number l n)) s (second lines itself h))))
        (in_flat (read.Same law tree k k') (rows.choice_default_names l n) own (first lines itself h).names))))

    choice_alike : AreAlike (rows.choice l n c) → read.IsSameChoice law tree k k' (choice_facts l n c)
    choice_alike h =
        let p = place_of l c.entry.0 in
        let ms = rows.members l c.members.items in
        let mode = rows.choice_mode l n p (prompt_in l p) in
        let defaults = rows.choice_defaults l n (said_at l c.entry.0) in
        let one : SymId → Needed = λ m. rows.member_by l m (slice_get l.symbols.items m.0) in
        let front = first (both ms mode) defaults h in
        record {
          members = all_same (λ m. AreAlike (one m)) (read.SameVisible law tree k k') member_alike c.members.items (each_alike one c.members.items (first ms mode front));
          mode = choice_mode_alike (prompt_in l p) (second ms mode front);
          defaults = choice_defaults_alike (said_at l c.entry.0) (second (both ms mode) defaults h);
        }

  -- ---- Rows
  module _ (g : Nodes) (made : AreNodeRows tree l g) where
    row_dependency_alike : (n : ℕ) → n < length l.choices.items → IsRowAlike tree l chosen V W g (dependency_number l n) → IsWorthAlike tree l chosen V W (of_node.Dependency (record { 0 = n }))
    row_dependency_alike n b h =
        let c = there_in l.choices.items n b in
        subst (λ o. dependency_of tree l k o ≡ dependency_of tree l k' o) (sym (c.1))
        (choice_dependency_alike n (c.0) (c.1) (row_alike g (dependency_number l n) (rows.dependency_row l (c.0)) (row_of_dependency tree l g made n (c.0) (c.1) b) h))

    row_choice_alike : (n : ℕ) → (n < length l.choices.items) ⊎ (length l.choices.items ≤ n) → IsRowAlike tree l chosen V W g (choice_number l n) →
        selected tree k (choice_at tree n) (chosen n) ≡ selected tree k' (choice_at tree n) (chosen n)
    row_choice_alike n (inl b) h =
        let c = there_in l.choices.items n b in
        subst (λ o. selected tree k o (chosen n) ≡ selected tree k' o (chosen n)) (sym (choices_laid tree l laid n ∙ ap (option_map (choice_facts l n)) (c.1)))
        (read.same_selected law tree k k' (choice_facts l n (c.0)) (chosen n)
        (choice_alike n (c.0) (c.1) (row_alike g (choice_number l n) (rows.choice l n (c.0)) (row_of_choice tree l g made n (c.0) (c.1) b) h)))
    row_choice_alike n (inr b) h =
        subst (λ o. selected tree k o (chosen n) ≡ selected tree k' o (chosen n)) (sym (choices_laid tree l laid n ∙ ap (option_map (choice_facts l n)) (slice_get_past l.choices.items n b))) refl

    pub reads : ReadRows tree l chosen V W g
    reads = record {
      visible = λ v b h. menu_alike v.0 b (row_alike g (visible_number l v.0) (rows.visible_row l (visible_menu l v.0)) (row_of_visible tree l g made v.0 b) h);
      context = λ at b h own. own_context_alike at.0 b own (row_alike g (context_number l at.0) (rows.context_row l at.0) (row_of_context tree l g made at.0 b) h);
      dependency = λ n b h. row_dependency_alike n.0 b h;
      choice = λ n h. row_choice_alike n.0 (cases_lt n.0 (length l.choices.items)) h;
      equation = λ P Q s b h.
          let below : s < length l.symbols.items = omega (arith, b, symbols_count tree l laid) in
          let row = there_in l.symbols.items s below in
          equation_alike s (row.0) (row.1) P Q (row_alike g s (rows.by_choice tree l (symbol s) (row.0) (row.0).choice) (row_of_symbol tree l g made s (row.0) below (row.1)) h);
    }
