-- Needs that are held in rows.
use Rattle.std.proofs.{Common.{All, List, [], arith, get_or, inl, inr, length, subst, suc, sym, zero, ℕ, ◌<◌, ◌∷◌, ◌≡◌, ◌≤◌}, lemmas.{Bool.cases_lt, List.{Elements.{All-contains, All-tail, Contains-get_or}, get_or_default, get_or_past}}}
use Rattle.std.specs.List.{Contains}
use Rattle.kc_order.specs.{Graph.{IsGraph, Nodes}, Needs.{AreWithin, NeedsBelow}, Rows.{NeedSmaller, RowsBelow}}
use Rattle.kc_language.specs.Needs.{needs_in}

-- row r holds what row r holds
pub row_is : (rows : List (List ℕ)) (r : ℕ) (d : List ℕ) → r < length rows → needs_in rows r ≡ get_or rows r d
row_is rows r d h = get_or_default rows r [] d h

-- what needs something has a row
pub has_row : (rows : List (List ℕ)) (r t : ℕ) → Contains (needs_in rows r) t → r < length rows
has_row rows r t c =
    elim (cases_lt r (length rows)) [
      | inl there ↦ there
      | inr past ↦ let none = subst (λ row. Contains row t) (get_or_past rows r [] past) c in absurd (omega (arith, none.1))
    ]

pub row_below : (n : ℕ) (rows : List (List ℕ)) (r t : ℕ) → RowsBelow n rows → Contains (needs_in rows r) t → t < n
row_below n [] r t below i = absurd (omega (arith, i.1))
row_below n (row ∷ rows) zero t below i = All-contains (λ t. t < n) row t (below 0 row (omega arith)) i
row_below n (row ∷ rows) (suc r) t below i = row_below n rows r t (All-tail (λ r. All (λ t. t < n) r) row rows below) i

-- where rows hold nodes, the needs are nodes
pub needs_below : (rows : List (List ℕ)) → RowsBelow (length rows) rows → NeedsBelow (length rows) (needs_in rows)
needs_below rows below s t h i = row_below (length rows) rows s t below i

-- and where the needs are nodes, rows hold nodes
pub rows_below : (rows : List (List ℕ)) → AreWithin rows → RowsBelow (length rows) rows
rows_below rows within r d h k e j =
    let is = row_is rows r d h in
    within r (get_or (get_or rows r d) k e) h (subst (λ xs. Contains xs (get_or (get_or rows r d) k e)) (sym is) (Contains-get_or (get_or rows r d) k e j))

-- the needs of a node are nodes
pub row_nodes : (rows : List (List ℕ)) (r : ℕ) → AreWithin rows → r < length rows → All (λ t. t < length rows) (needs_in rows r)
row_nodes rows r within l k d b = within r (get_or (needs_in rows r) k d) l (Contains-get_or (needs_in rows r) k d b)

-- a graph, by its rows
pub is_graph : (g : Nodes) → g.symbols ≤ length g.rows → RowsBelow (length g.rows) g.rows → NeedSmaller g.symbols g.rows → IsGraph g
is_graph g there below down = record {
  symbols_there = there;
  within = needs_below g.rows below;
  goes_down = λ r t l b c. All-contains (λ t. t < r) (needs_in g.rows r) t (down r l b) c;
}

pub graph_down : (g : Nodes) → IsGraph g → NeedSmaller g.symbols g.rows
graph_down g is r l b k d m = is.goes_down r (get_or (needs_in g.rows r) k d) l b (Contains-get_or (needs_in g.rows r) k d m)
