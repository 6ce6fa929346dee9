-- For proofs: A row of the graph of needs while it is built.
use Rattle.std.specs.Prelude.{List, Some, filter, length, map, nat_lt, slice_get, ℕ, ◌++◌, ◌<◌, ◌≡◌, ◌≤◌}
use Rattle.kc_language.specs.declared.{expressions.SymId.SymId, symbols.ChoiceId.ChoiceId}
use Rattle.kc_tree.specs.declared.{layout.Layout.Layout, rows.{EntryPlace.EntryPlace, Symbol.Symbol}}
use Rattle.kc_values.specs.{NeedRows.Needed, declared.needs.NeedRow.NeedRow}

-- the row under construction holds these nodes and names
pub record IsRow (nodes : List ℕ) (names : List SymId) (row : NeedRow) : Type 0 where
  pub nodes_are : row.nodes.items ≡ nodes
  pub names_are : row.names.items ≡ names

-- the new row holds these in addition
abbrev pub Adds : NeedRow → NeedRow → Needed → Type 0
Adds old new n = IsRow (old.nodes.items ++ n.nodes) (old.names.items ++ n.names) new

-- the row in a graph of so many symbols: the nodes, and the numbers of the symbols among the names
abbrev pub row_of : ℕ → NeedRow → List ℕ
row_of count row = row.nodes.items ++ map (λ (s : SymId). s.0) (filter (λ (s : SymId). nat_lt s.0 count) row.names.items)

-- the row of the symbol with a number
abbrev pub IsRowAt : Layout → SymId → Symbol → Type 0
IsRowAt l s row = slice_get l.symbols.items s.0 ≡ Some row

-- the nodes that a place leads to are there
pub record IsPlaceThere (l : Layout) (p : EntryPlace) : Type 0 where
  pub context : p.context.0 ≤ length l.places.items
  pub visible : p.visible.0 ≤ length l.visibles.items

-- the choices of all members exist
abbrev pub AreChoicesThere : Layout → Type 0
AreChoicesThere l = (i : ℕ) (s : Symbol) (k : ChoiceId) → slice_get l.symbols.items i ≡ Some s → s.choice ≡ Some k → k.0 < length l.choices.items
