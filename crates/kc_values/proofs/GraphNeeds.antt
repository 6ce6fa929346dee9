-- The graph of a tree's needs is a graph: the row of each node.
use Rattle.std.proofs.{Common.{List, None, Option, Some, [], ap, arith, get_or, inl, inr, length, refl, subst, suc, sym, zero, ℕ, ◌++◌, ◌+◌, ◌-◌, ◌<◌, ◌∙◌, ◌≡◌, ◌≤◌}, lemmas.{Bool.cases_lt, List.{FromFn.{get_or-map-range_with_len, length-map-range_with_len}, get_or-append_right, get_or-map, get_or_append_left, length-append, length-map}, Option.{slice_get-get_or, slice_get_cases}}}
use Rattle.std.specs.{List.Contains, Prelude.{option_map, slice_get}}
use Rattle.kc_order.specs.Graph.{IsGraph, Nodes}
use Rattle.kc_language.specs.{Expressions.symbol, Needs.needs_in, Symbols.TreeFacts}
use Rattle.kc_tree.specs.{Layouts.{IsLayoutOf, choice_facts, facts_of, visible_menu}, Places.mode_view, declared.{layout.Layout.Layout, rows.{Choice.Choice, EntryId.EntryId, Symbol.Symbol}}}
use Rattle.kc_entries.specs.WellFormed.{IsWellFormed}
use Rattle.kc_entries.proofs.PlaceLemmas.{there_in}
use Rattle.kc_values.specs.NeedRows as rows
use Rattle.kc_values.specs.{MadeRows.AreChoicesThere, NeedRows.AreNodeRows, Nodes.{choice_number, context_number, dependency_number, first_choice, first_context, first_dependency, node_count, visible_number}}
use Rattle.kc_values.proofs.{Laid.{choices_laid, facts_laid}, NodesBelow.{below, choice_low, context_row_low, dependency_low, none, row_low, symbol_low, visible_row_low}}

-- the choices of a tree's members are there
pub choices_there : (tree : TreeFacts) (l : Layout) → IsLayoutOf tree l → IsWellFormed tree → AreChoicesThere l
choices_there tree l laid formed i s k e c =
    let f : slice_get tree.symbols i ≡ Some (facts_of l i s) = facts_laid tree l laid i ∙ ap (option_map (facts_of l i)) e in
    let there = formed.members_listed i (facts_of l i s) f k.0 (ap mode_view c) in
    elim (slice_get_cases l.choices.items k.0).1 [
      | inl h ↦ h.1
      | inr h ↦ absurd (let no : Some there.0 ≡ None = sym there.1 ∙ choices_laid tree l laid k.0 ∙ ap (option_map (choice_facts l k.0)) h.1 in cc)
    ]

-- rows one after another
front : (xs ys : List (List ℕ)) (i : ℕ) → i < length xs → needs_in (xs ++ ys) i ≡ needs_in xs i
front xs ys i h = get_or_append_left xs ys [] i h

back : (xs ys : List (List ℕ)) (n i : ℕ) → length xs ≡ n → needs_in (xs ++ ys) (n + i) ≡ needs_in ys i
back xs ys n i e = let at : (n + i) - n ≡ i = omega arith in get_or-append_right xs ys n (n + i) [] e (omega arith) ∙ ap (needs_in ys) at

module _ (tree : TreeFacts) (l : Layout) where
  abbrev s0 : List (List ℕ)
  s0 = rows.symbol_rows tree l

  abbrev s1 : List (List ℕ)
  s1 = rows.symbol_rows tree l ++ rows.visible_rows l

  abbrev s2 : List (List ℕ)
  s2 = (rows.symbol_rows tree l ++ rows.visible_rows l) ++ rows.context_rows l

  abbrev s3 : List (List ℕ)
  s3 = ((rows.symbol_rows tree l ++ rows.visible_rows l) ++ rows.context_rows l) ++ rows.dependency_rows l

  length0 : length (rows.symbol_rows tree l) ≡ length l.symbols.items
  length0 = length-map-range_with_len (λ i. rows.row_of l (rows.symbol_by tree l i (slice_get l.symbols.items i))) 0 (length l.symbols.items)

  length1 : length s1 ≡ first_context l
  length1 =
      let n = length-map l.visibles.items (λ (menu : EntryId). rows.row_of l (rows.visible_row l menu.0)) in
      omega (arith, length-append (rows.symbol_rows tree l) (rows.visible_rows l), length0, n)

  length2 : length s2 ≡ first_dependency l
  length2 =
      let n = length-map-range_with_len (λ at. rows.row_of l (rows.context_row l at)) 0 (suc (length l.places.items)) in
      omega (arith, length-append (rows.symbol_rows tree l ++ rows.visible_rows l) (rows.context_rows l), length1, n)

  length3 : length s3 ≡ first_choice l
  length3 =
      let n = length-map l.choices.items (λ c. rows.row_of l (rows.dependency_row l c)) in
      omega (arith, length-append ((rows.symbol_rows tree l ++ rows.visible_rows l) ++ rows.context_rows l) (rows.dependency_rows l), length2, n)

  pub rows_length : length (s3 ++ rows.choice_rows l) ≡ node_count l
  rows_length =
      let n = length-map-range_with_len (λ k. rows.row_of l (rows.choice_by l k (slice_get l.choices.items k))) 0 (length l.choices.items) in
      omega (arith, length-append (((rows.symbol_rows tree l ++ rows.visible_rows l) ++ rows.context_rows l) ++ rows.dependency_rows l) (rows.choice_rows l), length3, n)

module _ (tree : TreeFacts) (l : Layout) (g : Nodes) (made : AreNodeRows tree l g) where
  -- the row of each node
  pub row_of_symbol : (i : ℕ) (s : Symbol) → i < length l.symbols.items → slice_get l.symbols.items i ≡ Some s → needs_in g.rows i ≡ rows.row_of l (rows.by_choice tree l (symbol i) s s.choice)
  row_of_symbol i s b e =
      ap (λ rs. needs_in rs i) made.rows_are
      ∙ front (s3 tree l) (rows.choice_rows l) i (omega (arith, b, length3 tree l))
      ∙ front (s2 tree l) (rows.dependency_rows l) i (omega (arith, b, length2 tree l))
      ∙ front (s1 tree l) (rows.context_rows l) i (omega (arith, b, length1 tree l))
      ∙ front (s0 tree l) (rows.visible_rows l) i (omega (arith, b, length0 tree l))
      ∙ get_or-map-range_with_len (λ k. rows.row_of l (rows.symbol_by tree l k (slice_get l.symbols.items k))) 0 (length l.symbols.items) i i [] b (omega arith)
      ∙ ap (λ o. rows.row_of l (rows.symbol_by tree l i o)) e

  menu_row : (v : ℕ) → v ≤ length l.visibles.items → needs_in (rows.visible_rows l) v ≡ rows.row_of l (rows.visible_row l (visible_menu l v))
  menu_row zero b = refl
  menu_row (suc u) b =
      let x = there_in l.visibles.items u (omega (arith, b)) in
      let is : get_or l.visibles.items u (x.0) ≡ x.0 = (let f = slice_get-get_or l.visibles.items u (x.0) (omega (arith, b)) in let h = x.1 in cc) in
      get_or-map (λ (menu : EntryId). rows.row_of l (rows.visible_row l menu.0)) l.visibles.items u (x.0) [] (omega (arith, b))
      ∙ ap (λ (menu : EntryId). rows.row_of l (rows.visible_row l menu.0)) is
      ∙ ap (λ (o : Option EntryId). rows.row_of l (rows.visible_row l (elim o [ None ↦ 0 | Some menu ↦ menu.0 ]))) (sym (x.1))

  pub row_of_visible : (v : ℕ) → v ≤ length l.visibles.items → needs_in g.rows (visible_number l v) ≡ rows.row_of l (rows.visible_row l (visible_menu l v))
  row_of_visible v b =
      ap (λ rs. needs_in rs (visible_number l v)) made.rows_are
      ∙ front (s3 tree l) (rows.choice_rows l) (visible_number l v) (omega (arith, b, length3 tree l))
      ∙ front (s2 tree l) (rows.dependency_rows l) (visible_number l v) (omega (arith, b, length2 tree l))
      ∙ front (s1 tree l) (rows.context_rows l) (visible_number l v) (omega (arith, b, length1 tree l))
      ∙ back (s0 tree l) (rows.visible_rows l) (length l.symbols.items) v (length0 tree l)
      ∙ menu_row v b

  pub row_of_context : (at : ℕ) → at ≤ length l.places.items → needs_in g.rows (context_number l at) ≡ rows.row_of l (rows.context_row l at)
  row_of_context at b =
      ap (λ rs. needs_in rs (context_number l at)) made.rows_are
      ∙ front (s3 tree l) (rows.choice_rows l) (context_number l at) (omega (arith, b, length3 tree l))
      ∙ front (s2 tree l) (rows.dependency_rows l) (context_number l at) (omega (arith, b, length2 tree l))
      ∙ back (s1 tree l) (rows.context_rows l) (first_context l) at (length1 tree l)
      ∙ get_or-map-range_with_len (λ k. rows.row_of l (rows.context_row l k)) 0 (suc (length l.places.items)) at at [] (omega (arith, b)) (omega arith)

  pub row_of_dependency : (k : ℕ) (c : Choice) → slice_get l.choices.items k ≡ Some c → k < length l.choices.items → needs_in g.rows (dependency_number l k) ≡ rows.row_of l (rows.dependency_row l c)
  row_of_dependency k c e b =
      let is : get_or l.choices.items k c ≡ c = (let f = slice_get-get_or l.choices.items k c b in cc) in
      ap (λ rs. needs_in rs (dependency_number l k)) made.rows_are
      ∙ front (s3 tree l) (rows.choice_rows l) (dependency_number l k) (omega (arith, b, length3 tree l))
      ∙ back (s2 tree l) (rows.dependency_rows l) (first_dependency l) k (length2 tree l)
      ∙ get_or-map (λ d. rows.row_of l (rows.dependency_row l d)) l.choices.items k c [] b
      ∙ ap (λ d. rows.row_of l (rows.dependency_row l d)) is

  pub row_of_choice : (k : ℕ) (c : Choice) → slice_get l.choices.items k ≡ Some c → k < length l.choices.items → needs_in g.rows (choice_number l k) ≡ rows.row_of l (rows.choice l k c)
  row_of_choice k c e b =
      ap (λ rs. needs_in rs (choice_number l k)) made.rows_are
      ∙ back (s3 tree l) (rows.choice_rows l) (first_choice l) k (length3 tree l)
      ∙ get_or-map-range_with_len (λ j. rows.row_of l (rows.choice_by l j (slice_get l.choices.items j))) 0 (length l.choices.items) k k [] b (omega arith)
      ∙ ap (λ o. rows.row_of l (rows.choice_by l k o)) e

  -- each node of a row is there, and a group needs those before it
  module _ (there : AreChoicesThere l) where
    symbol_below : (i : ℕ) → i < length l.symbols.items → none (node_count l) (needs_in g.rows i)
    symbol_below i b =
        let s = there_in l.symbols.items i b in
        rw (row_of_symbol i (s.0) b (s.1)) (row_low l (node_count l) (rows.by_choice tree l (symbol i) (s.0) (s.0).choice) (omega arith)
        (symbol_low l (node_count l) (omega arith) tree (symbol i) (s.0) (s.0).choice (λ k e. let c = there i (s.0) k (s.1) e in omega (arith, c))))

    visible_below : (v : ℕ) → v ≤ length l.visibles.items → none (visible_number l v) (needs_in g.rows (visible_number l v))
    visible_below v b = rw (row_of_visible v b) (row_low l (visible_number l v) (rows.visible_row l (visible_menu l v)) (omega arith) (visible_row_low l v b))

    context_below : (at : ℕ) → at ≤ length l.places.items → none (context_number l at) (needs_in g.rows (context_number l at))
    context_below at b = rw (row_of_context at b) (row_low l (context_number l at) (rows.context_row l at) (omega arith) (context_row_low l at))

    dependency_below : (k : ℕ) → k < length l.choices.items → none (first_dependency l) (needs_in g.rows (dependency_number l k))
    dependency_below k b =
        let c = there_in l.choices.items k b in
        rw (row_of_dependency k (c.0) (c.1) b) (row_low l (first_dependency l) (rows.dependency_row l (c.0)) (omega arith) (dependency_low l (first_dependency l) (omega arith) (c.0)))

    choice_below : (k : ℕ) → k < length l.choices.items → none (first_choice l) (needs_in g.rows (choice_number l k))
    choice_below k b =
        let c = there_in l.choices.items k b in
        rw (row_of_choice k (c.0) (c.1) b) (row_low l (first_choice l) (rows.choice l k (c.0)) (omega arith) (choice_low l (first_choice l) (omega arith) k (c.0) (omega (arith, b))))

    -- the number of a node behind a first one
    moved : (first r t : ℕ) → first ≤ r → Contains (needs_in g.rows r) t → Contains (needs_in g.rows (first + (r - first))) t
    moved first r t h c = let at : first + (r - first) ≡ r = omega (arith, h) in subst (λ k. Contains (needs_in g.rows k) t) (sym at) c

    group_below : (r t : ℕ) → length l.symbols.items ≤ r → r < node_count l → Contains (needs_in g.rows r) t → t < r
    group_below r t low b c =
        elim (cases_lt r (first_context l)) [
          | inl menu ↦
              let v = r - length l.symbols.items in
              let h = below (visible_number l v) (needs_in g.rows (visible_number l v)) t (visible_below v (omega (arith, menu, low))) (moved (length l.symbols.items) r t low c) in
              omega (arith, h, low)
          | inr more ↦ elim (cases_lt r (first_dependency l)) [
            | inl entry ↦
                let at = r - first_context l in
                let h = below (context_number l at) (needs_in g.rows (context_number l at)) t (context_below at (omega (arith, entry, more))) (moved (first_context l) r t more c) in
                omega (arith, h, more)
            | inr behind ↦ elim (cases_lt r (first_choice l)) [
              | inl own ↦
                  let k = r - first_dependency l in
                  let h = below (first_dependency l) (needs_in g.rows (dependency_number l k)) t (dependency_below k (omega (arith, own, behind))) (moved (first_dependency l) r t behind c) in
                  omega (arith, h, behind)
              | inr choice ↦
                  let k = r - first_choice l in
                  let h = below (first_choice l) (needs_in g.rows (choice_number l k)) t (choice_below k (omega (arith, choice, b))) (moved (first_choice l) r t choice c) in
                  omega (arith, h, choice)
            ]
          ]
        ]

    pub is_graph : IsGraph g
    is_graph = record {
      symbols_there = omega (arith, made.symbols_are, made.count);
      within = λ s t b c. elim (cases_lt s (length l.symbols.items)) [
        | inl h ↦ let d = below (node_count l) (needs_in g.rows s) t (symbol_below s h) c in omega (arith, d, made.count)
        | inr h ↦ let d = group_below s t h (omega (arith, made.count)) c in omega (arith, d)
      ];
      goes_down = λ r t low b c. group_below r t (omega (arith, made.symbols_are)) (omega (arith, made.count)) c;
    }
