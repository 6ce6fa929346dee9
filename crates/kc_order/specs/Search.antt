-- For proofs: The invariant of a depth-first search for an order.
use Rattle.std.specs.{List.{Contains, IsDistinct}, Prelude.{Bool, List, [], drop, false, length, nat_eq, slice_index, slice_index_or, slice_set, sum, sum_by, take, true, vec_len, ℕ, ◌++◌, ◌+◌, ◌-◌, ◌<◌, ◌∷◌, ◌≡◌, ◌≢◌, ◌≤◌}}
use Rattle.kc_order.specs.{Order.NeedsFirst, declared.search.{NodeState.{NodeState, TheVariants.{Done, New, Open, Unordered}}, Search.Search}}
use Rattle.kc_language.specs.Needs.{needs_in, unordered_after}

-- The open symbols are a path along needs. The done ones are in order. Those given up are unordered after any number of
-- iterations. For each symbol, the needs after its first `left` are done.
pub record IsSearch (n : ℕ) (needs : ℕ → List ℕ) (mark : ℕ → NodeState) (left : ℕ → ℕ) (path order : List ℕ) : Type 0 where
  pub path_is : (s : ℕ) → Contains path s → (s < n) × (mark s ≡ Open)
  pub open_is : (s : ℕ) → s < n → mark s ≡ Open → Contains path s
  pub path_apart : IsDistinct nat_eq path
  pub path_goes : (k : ℕ) → k + 1 < length path → Contains (needs (slice_index path k)) (slice_index path (k + 1))
  pub order_is : (s : ℕ) → Contains order s → (s < n) × (mark s ≡ Done)
  pub done_is : (s : ℕ) → s < n → mark s ≡ Done → Contains order s
  pub order_apart : IsDistinct nat_eq order
  pub needs_first : NeedsFirst needs order
  pub done_ordered : (s : ℕ) → s < n → mark s ≡ Done → unordered_after needs n s ≡ false
  pub unordered_is : (s k : ℕ) → s < n → mark s ≡ Unordered → unordered_after needs k s ≡ true
  pub left_le : (s : ℕ) → s < n → left s ≤ length (needs s)
  pub passed : (s t : ℕ) → s < n → Contains (drop (left s) (needs s)) t → mark t ≡ Done

-- the state of symbol s
abbrev pub state_of : Search → ℕ → NodeState
state_of search s = slice_index_or search.states.items s New

-- the last node of the path
abbrev pub IsTop : ℕ → Search → ℕ → Type 0
IsTop n search top = (top < n) × (search.path.items ≡ take (vec_len search.path - 1) search.path.items ++ top ∷ [])

-- a search over rows
pub record IsSound (rows : List (List ℕ)) (search : Search) : Type 0 where
  pub states_len : length search.states.items ≡ length rows
  pub left_len : length search.left.items ≡ length rows
  pub keeps : IsSearch (length rows) (needs_in rows) (λ s. slice_index_or search.states.items s New)
      (λ s. slice_index_or search.left.items s 0) search.path.items search.order.items

-- s is now open, at the end of the path
pub record Opens (before after : Search) (s : ℕ) : Type 0 where
  pub states : after.states.items ≡ slice_set before.states.items s Open
  pub left : after.left.items ≡ before.left.items
  pub path : after.path.items ≡ before.path.items ++ s ∷ []
  pub order : after.order.items ≡ before.order.items

-- s, which was at the end of the path, is now done, at the end of the order
pub record Closes (before after : Search) (s : ℕ) : Type 0 where
  pub states : after.states.items ≡ slice_set before.states.items s Done
  pub left : after.left.items ≡ before.left.items
  pub path : before.path.items ≡ after.path.items ++ s ∷ []
  pub order : after.order.items ≡ before.order.items ++ s ∷ []

-- s, which was at the end of the path, is given up
pub record GivesUp (before after : Search) (s : ℕ) : Type 0 where
  pub states : after.states.items ≡ slice_set before.states.items s Unordered
  pub left : after.left.items ≡ before.left.items
  pub path : before.path.items ≡ after.path.items ++ s ∷ []
  pub order : after.order.items ≡ before.order.items

-- the steps still needed for a symbol, besides those for its needs
abbrev pub weight : NodeState → ℕ
weight New = 2
weight Open = 1
weight Done = 0
weight Unordered = 0

-- the steps that are still needed
abbrev pub work : Search → ℕ
work search = sum_by weight search.states.items + sum search.left.items

-- what was visited stays visited
abbrev pub KeepsVisited : Search → Search → Type 0
KeepsVisited before after = (s : ℕ) → (slice_index_or before.states.items s New ≡ New → ⊥) → slice_index_or after.states.items s New ≡ New → ⊥

-- a symbol with this mark is unordered
abbrev pub is_unordered : NodeState → Bool
is_unordered New = false
is_unordered Open = false
is_unordered Done = false
is_unordered Unordered = true

-- a search that has visited each symbol, and has no open symbol
pub record IsFinished (rows : List (List ℕ)) (search : Search) : Type 0 where
  pub sound : IsSound rows search
  pub idle : length search.path.items ≡ 0
  pub visited : (s : ℕ) → s < length rows → state_of search s ≢ New
