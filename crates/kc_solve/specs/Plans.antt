-- For proofs: A plan while it is made.
use Rattle.std.specs.{List.Contains, Prelude.{Bool, List, [], false, get_or, length, slice_index_or, take, true, ℕ, ◌<◌, ◌≡◌, ◌≤◌}}
use Rattle.kc_language.specs.Needs.{needs_in}
use Rattle.kc_order.specs.Graph.{Nodes}

-- the readers of the first k nodes are in the lists of what these read
abbrev pub AreReadersTo : ℕ → Nodes → List (List ℕ) → Type 0
AreReadersTo k g readers = (n t : ℕ) → n < k → Contains (needs_in g.rows n) t → Contains (get_or readers t []) n

-- no other nodes than the first k are done, and each of these comes after the groups in its row
pub record IsOrderedTo (k : ℕ) (g : Nodes) (nodes : List ℕ) (done : List Bool) : Type 0 where
  pub count : length done ≡ length g.rows
  pub are_done : (t : ℕ) → slice_index_or done t false ≡ true → Contains (take k nodes) t
  pub ordered : (j t : ℕ) → j < k → g.symbols ≤ t → Contains (needs_in g.rows (slice_index_or nodes j 0)) t → Contains (take j nodes) t
