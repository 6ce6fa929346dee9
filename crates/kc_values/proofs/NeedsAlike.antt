-- The symbols of the graph of a tree's needs need what the tree's symbols do.
use Rattle.std.proofs.{Common.{Bool, List, Some, [], ap, arith, cond, false, inl, inr, length, map, nat_lt, refl, subst, suc, sym, true, zero, ℕ, ◌&&◌, ◌<◌, ◌==◌, ◌||◌, ◌∙◌, ◌∷◌, ◌≡◌, ◌≤◌}, lemmas.{Bool.{cases_lt, eq-eqb, ltb-true}, List.{Folds.list_any-append, get_or_past}, Option.slice_get_within}}
use Rattle.std.specs.{List.{Contains, list_any}, Prelude.{filter, option_map, slice_get}}
use Rattle.kc_language.specs.{Expressions.symbol, Needs.needs_in, Symbols.TreeFacts, Values.{choice_at, facts}, declared.expressions.SymId.SymId}
use Rattle.kc_order.proofs.Groups.{group_stands, needs_count, needs_stand, stands_symbol}
use Rattle.kc_order.specs.{Graph.{IsGraph, Nodes, groups_of, needs_of, stands_for}, Needs.AreAlike}
use Rattle.kc_language.specs.Needs as spec
use Rattle.kc_entries.proofs.PlaceLemmas.{there_in}
use Rattle.kc_tree.specs.{EntryViews.entry_count, Layouts.{IsLayoutOf, choice_dependency, choice_facts, entry_at, facts_of, outer_context, outer_visible, place_of, visible_menu}, declared.{layout.Layout.Layout, rows.{Choice.Choice, EntryPlace.EntryPlace}}}
use Rattle.kc_tree.proofs.{OuterLemmas.{context-again, entry-there, outer-below, outer_context-before, place-past}, VisibleLemmas.{menu-at, outer_visible-before}}
use Rattle.kc_values.specs.{MadeRows.AreChoicesThere, NeedRows.{AreNodeRows, Needed}, Nodes.{choice_number, context_number, dependency_number, node_count, visible_number}, PartsOfValues.is_mentioned}
use Rattle.kc_values.specs.NeedRows as rows
use Rattle.kc_values.proofs.{AnyLemmas.{any_filter, any_flat, any_map, any_same, in_stands, stands, stands_in}, GraphNeeds.{row_of_choice, row_of_context, row_of_dependency, row_of_symbol, row_of_visible}, Laid.{choices_laid, facts_laid, symbols_count}, PlacesThere.context_there, RowNeeds.{Known, Visible, choice_needs, condition_hits, context_row_hits, dependency_row_hits, hit, hits, names, symbol_needs, visible_row_hits}, TreeNeeds.{needs_at, needs_length}}

module _ (tree : TreeFacts) (l : Layout) (laid : IsLayoutOf tree l) (g : Nodes) (made : AreNodeRows tree l g) (is : IsGraph g) (v : ℕ) where
  -- a node stands for the symbol v
  abbrev pub st : ℕ → Bool
  st t = stands v (stands_for g.symbols (groups_of g) t)

  of_symbol : (t : ℕ) → t < length l.symbols.items → st t ≡ (t == v)
  of_symbol t b = ap (stands v) (stands_symbol g.symbols (groups_of g) t (omega (arith, made.symbols_are))) ∙ alone (t == v)
    where
      alone : (b : Bool) → (b || false) ≡ b
      alone b = grind arith

  of_group : (t : ℕ) → length l.symbols.items ≤ t → t < node_count l → st t ≡ list_any st (needs_in g.rows t)
  of_group t low b =
      ap (stands v) (group_stands g is t (omega (arith, made.symbols_are)) (omega (arith, made.count)))
      ∙ any_flat (λ m. m == v) (stands_for g.symbols (groups_of g)) (needs_in g.rows t)

  -- of names the symbols
  of_names : (ss : List SymId) → list_any st (rows.numbers l ss) ≡ names tree l v ss
  of_names ss =
      let there = λ (s : SymId). nat_lt s.0 (length l.symbols.items) in
      any_map st (λ (s : SymId). s.0) (filter there ss)
      ∙ any_filter (λ (s : SymId). st s.0) there ss
      ∙ any_same (λ (s : SymId). there s && st s.0) (hit tree l v) (λ s. one s.0 (nat_lt s.0 (length l.symbols.items)) refl) ss
    where
      one : (k : ℕ) (b : Bool) → nat_lt k (length l.symbols.items) ≡ b → (b && st k) ≡ (b && (k == v))
      one k false e = refl
      one k true e = of_symbol k (ltb-true k (length l.symbols.items) e)

  of_row : (n : Needed) → list_any st (rows.row_of l n) ≡ hits tree l v (sym laid.modules) st n
  of_row n = list_any-append st n.nodes (rows.numbers l n.names) ∙ ap (λ b. list_any st n.nodes || b) (of_names n.names)

  later : (i : ℕ) → (suc i == 0) ≡ false
  later i = grind arith

  -- a node that is no first one, alone in a row
  one : (i : ℕ) → (i == 0) ≡ false → (t : ℕ) → (list_any st (cond (i == 0) [] (t ∷ [])) || false) ≡ st t
  one i e t = ap (λ b. list_any st (cond b [] (t ∷ [])) || false) e ∙ alone (st t)
    where
      alone : (b : Bool) → ((b || false) || false) ≡ b
      alone b = grind arith

  -- menus
  visible_by : (n : ℕ) → n ≤ length l.visibles.items → ((k : ℕ) → k < n → k ≤ length l.visibles.items → Visible tree l v (sym laid.modules) st k) → Visible tree l v (sym laid.modules) st n
  visible_by zero b before = refl
  visible_by (suc u) b before =
      let m = menu-at l u (omega (arith, b)) in
      let low = outer_visible-before l u (m.0) (m.1) in
      one (suc u) (later u) (visible_number l (suc u))
      ∙ of_group (visible_number l (suc u)) (omega arith) (omega (arith, b))
      ∙ ap (list_any st) (row_of_visible tree l g made (suc u) b)
      ∙ of_row (rows.visible_row l (visible_menu l (suc u)))
      ∙ ap (λ menu. hits tree l v (sym laid.modules) st (rows.visible_row l menu)) ((m.1).is)
      ∙ visible_row_hits tree l v (sym laid.modules) st u (m.0) (m.1) (before (outer_visible l (suc (m.0))) (omega (arith, low)) (omega (arith, low, b)))

  visibles_below : (bound n : ℕ) → n < bound → n ≤ length l.visibles.items → Visible tree l v (sym laid.modules) st n
  visibles_below zero n h b = absurd (omega (arith, h))
  visibles_below (suc k) n h b = visible_by n b (λ j less there. visibles_below k j (omega (arith, less, h)) there)

  -- a menu stands for what it and the menus around it ask of what is visible
  pub visibles_stand : (n : ℕ) → n ≤ length l.visibles.items → Visible tree l v (sym laid.modules) st n
  visibles_stand n b = visibles_below (suc n) n (omega arith) b

  -- entries that are contexts
  context_by : (at : ℕ) → at ≤ length l.places.items → (place_of l at).context.0 ≡ at →
      ((k : ℕ) → k < at → k ≤ length l.places.items → (place_of l k).context.0 ≡ k → Known tree l v (sym laid.modules) st k) → Known tree l v (sym laid.modules) st at
  context_by zero b own before = refl
  context_by (suc e) b own before =
      let there : e < entry_count l.entries = omega (arith, b, l.laid.count) in
      let x = entry-there l e there in
      let low = outer_context-before l e there in
      let outer = outer-below l e there in
      let again = context-again l (place_of l (suc e)).outer.0 (omega (arith, outer, there)) in
      one (suc e) (later e) (context_number l (suc e))
      ∙ of_group (context_number l (suc e)) (omega arith) (omega (arith, b))
      ∙ ap (list_any st) (row_of_context tree l g made (suc e) b)
      ∙ of_row (rows.context_row l (suc e))
      ∙ ap (λ t. hits tree l v (sym laid.modules) st (rows.where_true t (rows.context_by l (suc e) (entry_at l (suc e))))) (eq-eqb (place_of l (suc e)).context.0 (suc e) own)
      ∙ ap (λ o. hits tree l v (sym laid.modules) st (rows.context_by l (suc e) o)) (x.1)
      ∙ context_row_hits tree l v (sym laid.modules) st visibles_stand laid e (x.0) there (x.1) (before (outer_context l (suc e)) (omega (arith, low)) (omega (arith, low, b)) again)

  contexts_below : (bound at : ℕ) → at < bound → at ≤ length l.places.items → (place_of l at).context.0 ≡ at → Known tree l v (sym laid.modules) st at
  contexts_below zero at h b own = absurd (omega (arith, h))
  contexts_below (suc k) at h b own = context_by at b own (λ j less there same. contexts_below k j (omega (arith, less, h)) there same)

  -- an entry that is its own context stands for what it asks for
  pub contexts_stand : (at : ℕ) → at ≤ length l.places.items → (place_of l at).context.0 ≡ at → Known tree l v (sym laid.modules) st at
  contexts_stand at b own = contexts_below (suc at) at (omega arith) b own

  -- so does the context of each entry
  context_stands : (at : ℕ) → Known tree l v (sym laid.modules) st (place_of l at).context.0
  context_stands zero = refl
  context_stands (suc e) =
      elim (cases_lt e (entry_count l.entries)) [
        | inl h ↦ contexts_stand (place_of l (suc e)).context.0 (context_there l (suc e)) (context-again l (suc e) (omega (arith, h)))
        | inr h ↦ subst (λ (p : EntryPlace). Known tree l v (sym laid.modules) st p.context.0) (sym (place-past l e h)) refl
      ]

  -- what a choice depends on itself
  pub dependencies_stand : (k : ℕ) (c : Choice) → slice_get l.choices.items k ≡ Some c → st (dependency_number l k) ≡ condition_hits tree l v (choice_dependency l c)
  dependencies_stand k c e =
      let b = slice_get_within l.choices.items k c e in
      of_group (dependency_number l k) (omega arith) (omega (arith, b))
      ∙ ap (list_any st) (row_of_dependency tree l g made k c e b)
      ∙ of_row (rows.dependency_row l c)
      ∙ dependency_row_hits tree l v (sym laid.modules) st visibles_stand k c e (context_stands (place_of l c.entry.0).outer.0)

  -- the selection of a choice
  pub choice_stands : (k : ℕ) → k < length l.choices.items → st (choice_number l k) ≡ names tree l v (spec.names_of_choice tree (choice_at tree k))
  choice_stands k b =
      let c = there_in l.choices.items k b in
      of_group (choice_number l k) (omega arith) (omega (arith, b))
      ∙ ap (list_any st) (row_of_choice tree l g made k (c.0) (c.1) b)
      ∙ of_row (rows.choice l k (c.0))
      ∙ choice_needs tree l v (sym laid.modules) st visibles_stand context_stands laid k (c.0) (dependencies_stand k (c.0) (c.1))
      ∙ ap (λ o. names tree l v (spec.names_of_choice tree o)) (sym (choices_laid tree l laid k ∙ ap (option_map (choice_facts l k)) (c.1)))

  module _ (there : AreChoicesThere l) where
    -- and a symbol
    symbol_stands : (i : ℕ) → i < length l.symbols.items → list_any st (needs_in g.rows i) ≡ names tree l v (spec.named_by tree (facts tree (symbol i)))
    symbol_stands i b =
        let s = there_in l.symbols.items i b in
        ap (list_any st) (row_of_symbol tree l g made i (s.0) b (s.1))
        ∙ of_row (rows.by_choice tree l (symbol i) (s.0) (s.0).choice)
        ∙ symbol_needs tree l v (sym laid.modules) st visibles_stand context_stands i (s.0) (s.1) (λ k e. choice_stands k.0 (there i (s.0) k (s.1) e))
        ∙ ap (λ o. names tree l v (spec.named_by tree o)) (sym (facts_laid tree l laid i ∙ ap (option_map (facts_of l i)) (s.1)))

    graph_needs : (i : ℕ) → i < length l.symbols.items → stands v (needs_in (needs_of g) i) ≡ names tree l v (spec.named_by tree (facts tree (symbol i)))
    graph_needs i b =
        ap (stands v) (needs_stand g is i (omega (arith, made.symbols_are)))
        ∙ any_flat (λ m. m == v) (stands_for g.symbols (groups_of g)) (needs_in g.rows i)
        ∙ symbol_stands i b

  numbers_seen : (ss : List SymId) → stands v (map (λ (s : SymId). s.0) (filter (is_mentioned tree) ss)) ≡ names tree l v ss
  numbers_seen ss =
      any_map (λ m. m == v) (λ (s : SymId). s.0) (filter (is_mentioned tree) ss)
      ∙ any_filter (λ (s : SymId). s.0 == v) (is_mentioned tree) ss
      ∙ any_same (λ s. is_mentioned tree s && (s.0 == v)) (hit tree l v) (λ s. ap (λ k. nat_lt s.0 k && (s.0 == v)) (symbols_count tree l laid)) ss

  module _ (there : AreChoicesThere l) (i : ℕ) where
    onward : Contains (needs_in (needs_of g) i) v → Contains (needs_in (spec.needs tree) i) v
    onward c =
        elim (cases_lt i (length l.symbols.items)) [
          | inl b ↦
              let ss = spec.named_by tree (facts tree (symbol i)) in
              let numbers = map (λ (s : SymId). s.0) (filter (is_mentioned tree) ss) in
              let seen = numbers_seen ss ∙ sym (graph_needs there i b) ∙ in_stands v (needs_in (needs_of g) i) c in
              subst (λ row. Contains row v) (sym (needs_at tree i)) (stands_in v numbers seen)
          | inr b ↦ absurd (let e = ap length (get_or_past (needs_of g) i [] (omega (arith, needs_count g is, made.symbols_are))) in let h = c.1 in omega (arith, e, h))
        ]

    back : Contains (needs_in (spec.needs tree) i) v → Contains (needs_in (needs_of g) i) v
    back c =
        elim (cases_lt i (length l.symbols.items)) [
          | inl b ↦
              let ss = spec.named_by tree (facts tree (symbol i)) in
              let numbers = map (λ (s : SymId). s.0) (filter (is_mentioned tree) ss) in
              let there' = subst (λ row. Contains row v) (needs_at tree i) c in
              stands_in v (needs_in (needs_of g) i) (graph_needs there i b ∙ sym (numbers_seen ss) ∙ in_stands v numbers there')
          | inr b ↦ absurd (let e = ap length (get_or_past (spec.needs tree) i [] (omega (arith, needs_length tree, symbols_count tree l laid))) in let h = c.1 in omega (arith, e, h))
        ]

pub needs_alike : (tree : TreeFacts) (l : Layout) → IsLayoutOf tree l → (g : Nodes) → AreNodeRows tree l g → IsGraph g → AreChoicesThere l → AreAlike (needs_of g) (spec.needs tree)
needs_alike tree l laid g made is there = record {
  count = needs_count g is ∙ made.symbols_are ∙ sym (needs_length tree ∙ symbols_count tree l laid);
  onward = λ s t c. onward tree l laid g made is t there s c;
  back = λ s t c. back tree l laid g made is t there s c;
}
