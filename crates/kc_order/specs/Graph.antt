-- Trusted: What symbols need, directly or through groups: a group holds once what many symbols need alike.
use Rattle.std.specs.{List.{Contains, flat_map}, Prelude.{List, [], drop, if◌then◌else◌, length, map, nat_lt, slice_index_or, take, ℕ, ◌++◌, ◌-◌, ◌<◌, ◌∷◌, ◌≤◌}}
use Rattle.kc_language.specs.Needs.{needs_in}
use Rattle.kc_order.specs.Needs.{AreWithin}

-- nodes, each with its row; the first nodes are symbols, the others groups
pub record Nodes : Type 0 where
  pub symbols : ℕ
  pub rows : List (List ℕ)

-- all symbols exist, each node of a row exists, and a group needs only groups before it
pub record IsGraph (g : Nodes) : Type 0 where
  pub symbols_there : g.symbols ≤ length g.rows
  pub within : AreWithin g.rows
  pub goes_down : (r t : ℕ) → g.symbols ≤ r → r < length g.rows → Contains (needs_in g.rows r) t → t < r

-- the symbols of a node: a symbol has itself, and a group has what it needs, given the groups before it
abbrev pub stands_for : ℕ → List (List ℕ) → ℕ → List ℕ
stands_for n groups t = if nat_lt t n then t ∷ [] else slice_index_or groups (t - n) []

-- what the groups of these rows need, after the groups before them
abbrev pub groups_from : ℕ → List (List ℕ) → List (List ℕ) → List (List ℕ)
groups_from n groups [] = groups
groups_from n groups (row ∷ rows) = groups_from n (groups ++ flat_map (stands_for n groups) row ∷ []) rows

-- what each group needs
abbrev pub groups_of : Nodes → List (List ℕ)
groups_of g = groups_from g.symbols [] (drop g.symbols g.rows)

-- what each symbol needs, directly or through groups
abbrev pub needs_of : Nodes → List (List ℕ)
needs_of g = map (flat_map (stands_for g.symbols (groups_of g))) (take g.symbols g.rows)
