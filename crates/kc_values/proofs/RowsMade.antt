-- Rows of the graph of needs, as they are closed one after another.
use Rattle.std.proofs.{Common.{List, Some, [], ap, append_assoc, arith, get_or, length, map, nat_lt, refl, sym, take, ℕ, ◌++◌, ◌+◌, ◌<◌, ◌∙◌, ◌∷◌, ◌≡◌}, lemmas.{List.{FromFn.map-range_with_len_more, map-append, take_more}, Option.slice_get_read}}
use Rattle.std.specs.{List.range_with_len, Prelude.{filter, slice_get}}
use Rattle.kc_language.specs.{Symbols.TreeFacts, declared.expressions.SymId.SymId}
use Rattle.kc_order.specs.Graph.{Nodes}
use Rattle.kc_tree.specs.declared.layout.Layout.{Layout}
use Rattle.kc_values.specs.{MadeRows.{Adds, IsRow, row_of}, NeedRows.{AreNodeRows, Needed}, declared.needs.NeedRow.NeedRow}
use Rattle.kc_values.specs.NeedRows as rows
use Rattle.kc_values.proofs.GraphNeeds.{rows_length}

abbrev numbers : ℕ → List SymId → List ℕ
numbers n names = map (λ (s : SymId). s.0) (filter (λ (s : SymId). nat_lt s.0 n) names)

-- a row that was empty and holds these
pub closed : (l : Layout) (n : ℕ) (need : Needed) (old row : NeedRow) → n ≡ length l.symbols.items → IsRow [] [] old → Adds old row need → row_of n row ≡ rows.row_of l need
closed l n need old row e empty adds =
    let a : row.nodes.items ≡ need.nodes = adds.nodes_are ∙ ap (λ x. x ++ need.nodes) empty.nodes_are in
    let b : row.names.items ≡ need.names = adds.names_are ∙ ap (λ x. x ++ need.names) empty.names_are in
    ap (λ x. x ++ numbers n row.names.items) a ∙ ap (λ x. need.nodes ++ numbers n x) b ∙ ap (λ k. need.nodes ++ numbers k need.names) e

-- and one that is still empty
pub untouched : (n : ℕ) (row : NeedRow) → IsRow [] [] row → row_of n row ≡ []
untouched n row empty = ap (λ x. x ++ numbers n row.names.items) empty.nodes_are ∙ ap (numbers n) empty.names_are

-- rows behind those that were added
pub rows_behind : (old now next : Nodes) (xs ys : List (List ℕ)) → now ≡ record old { rows = old.rows ++ xs } → next ≡ record now { rows = now.rows ++ ys } →
    next ≡ record old { rows = old.rows ++ (xs ++ ys) }
rows_behind old now next xs ys e more =
    let push : Nodes → Nodes = λ g. record g { rows = g.rows ++ ys } in
    let by : List (List ℕ) → Nodes = λ x. record old { rows = x } in
    more ∙ ap push e ∙ ap by (append_assoc old.rows xs ys)

-- one row more, of a number
pub numbered_more : (f : ℕ → List ℕ) (old now next : Nodes) (i : ℕ) (row : List ℕ) → now ≡ record old { rows = old.rows ++ map f (range_with_len 0 i) } →
    next ≡ record now { rows = now.rows ++ row ∷ [] } → row ≡ f i → next ≡ record old { rows = old.rows ++ map f (range_with_len 0 (i + 1)) }
numbered_more f old now next i row e more r =
    let by : List (List ℕ) → Nodes = λ x. record old { rows = old.rows ++ x } in
    rows_behind old now next (map f (range_with_len 0 i)) (row ∷ []) e more
    ∙ ap (λ x. by (map f (range_with_len 0 i) ++ x ∷ [])) r
    ∙ ap by (sym (map-range_with_len_more f 0 i i (omega arith)))

-- of an element
pub listed_read : {X : Type 0} (f : X → List ℕ) (old now next : Nodes) (xs : List X) (i : ℕ) (d : X) (row : List ℕ) → i < length xs →
    now ≡ record old { rows = old.rows ++ map f (take i xs) } → next ≡ record now { rows = now.rows ++ row ∷ [] } → row ≡ f (get_or xs i d) →
    next ≡ record old { rows = old.rows ++ map f (take (i + 1) xs) }
listed_read f old now next xs i d row b e more r =
    let by : List (List ℕ) → Nodes = λ y. record old { rows = old.rows ++ y } in
    rows_behind old now next (map f (take i xs)) (row ∷ []) e more
    ∙ ap (λ y. by (map f (take i xs) ++ y ∷ [])) r
    ∙ ap by (sym (map-append f (take i xs) (get_or xs i d ∷ [])))
    ∙ ap (λ y. by (map f y)) (sym (take_more xs i d b))

pub listed_more : {X : Type 0} (f : X → List ℕ) (old now next : Nodes) (xs : List X) (i : ℕ) (x : X) (row : List ℕ) → i < length xs → x ≡ get_or xs i x →
    now ≡ record old { rows = old.rows ++ map f (take i xs) } → next ≡ record now { rows = now.rows ++ row ∷ [] } → row ≡ f x →
    next ≡ record old { rows = old.rows ++ map f (take (i + 1) xs) }
listed_more f old now next xs i x row b is e more r = listed_read f old now next xs i x row b e more (r ∙ ap f is)

-- the element of a loop over a list, by its number
pub read_at : {X : Type 0} (xs ys : List X) (i : ℕ) (x : X) → xs ≡ ys → i < length xs → x ≡ get_or xs i x → slice_get ys i ≡ Some x
read_at xs ys i x same b is = sym (ap (λ zs. slice_get zs i) same) ∙ slice_get_read xs (length xs) i x refl b is

-- the rows of all nodes, made one kind after another
pub all_rows : (tree : TreeFacts) (l : Layout) (n : ℕ) (g g1 g2 g3 g4 g5 : Nodes) → n ≡ length l.symbols.items → g ≡ record { symbols = n; rows = [] } →
    g1 ≡ record g { rows = g.rows ++ rows.symbol_rows tree l } → g2 ≡ record g1 { rows = g1.rows ++ rows.visible_rows l } → g3 ≡ record g2 { rows = g2.rows ++ rows.context_rows l } →
    g4 ≡ record g3 { rows = g3.rows ++ rows.dependency_rows l } → g5 ≡ record g4 { rows = g4.rows ++ rows.choice_rows l } → AreNodeRows tree l g5
all_rows tree l n g g1 g2 g3 g4 g5 same e e1 e2 e3 e4 e5 =
    let s0 = rows.symbol_rows tree l in
    let s1 = s0 ++ rows.visible_rows l in
    let s2 = s1 ++ rows.context_rows l in
    let s3 = s2 ++ rows.dependency_rows l in
    let s4 = s3 ++ rows.choice_rows l in
    let all : g5 ≡ record g { rows = g.rows ++ s4 } =
    rows_behind g g4 g5 s3 (rows.choice_rows l) (rows_behind g g3 g4 s2 (rows.dependency_rows l) (rows_behind g g2 g3 s1 (rows.context_rows l) (rows_behind g g1 g2 s0 (rows.visible_rows l) e1 e2) e3) e4) e5 in
    let start : g5 ≡ record { symbols = n; rows = s4 } = all ∙ ap (λ (x : Nodes). record x { rows = x.rows ++ s4 }) e in
    let rows_are : g5.rows ≡ s4 = ap (λ (x : Nodes). x.rows) start in
    record {
      symbols_are = ap (λ (x : Nodes). x.symbols) start ∙ same;
      count = ap length rows_are ∙ rows_length tree l;
      rows_are = rows_are;
    }
