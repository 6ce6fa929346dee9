-- For proofs: The position in a sequence of the first unordered symbol among several, and among those that groups need.
use Rattle.std.specs.{List.list_any, Prelude.{Bool, List, None, Option, Some, [], if◌then◌else◌, length, nat_eq, nat_le, position, slice_index_or, ℕ, ◌&&◌, ◌<◌, ◌∷◌, ◌≡◌}}
use Rattle.kc_order.specs.{Graph.{Nodes, groups_of, needs_of, stands_for}, Search.is_unordered, declared.search.NodeState.{NodeState, TheVariants.New}}
use Rattle.kc_language.specs.Needs.{needs_in, unordered_after}

-- the lesser of two, if there are any
abbrev pub lesser_of : Option ℕ → Option ℕ → Option ℕ
lesser_of None o = o
lesser_of (Some s) None = Some s
lesser_of (Some s) (Some t) = if nat_le s t then Some s else Some t

-- a symbol is marked as unordered
abbrev pub is_unordered_at : List NodeState → ℕ → Bool
is_unordered_at states s = is_unordered (slice_index_or states s New)

-- the position of the first symbol of a sequence that passes a test and is one of these
abbrev pub place_among : (ℕ → Bool) → List ℕ → List ℕ → Option ℕ
place_among test sequence symbols = position (λ u. test u && list_any (nat_eq u) symbols) sequence

-- each node has its position in the sequence, if it is unordered
pub record ArePlaces (sequence : List ℕ) (states : List NodeState) (places : List (Option ℕ)) : Type 0 where
  pub count : length places ≡ length states
  pub each : (s : ℕ) → s < length states → slice_index_or places s None ≡ place_among (is_unordered_at states) sequence (s ∷ [])

-- each node below a bound has the position of its first unordered symbol (see `stands_for`)
pub record AreFirsts (sequence : List ℕ) (g : Nodes) (bound : ℕ) (firsts : List (Option ℕ)) : Type 0 where
  pub count : length firsts ≡ length g.rows
  pub each : (t : ℕ) → t < bound →
      slice_index_or firsts t None ≡ place_among (unordered_after (needs_in (needs_of g)) g.symbols) sequence (stands_for g.symbols (groups_of g) t)

-- each node is marked as unordered if and only if it is unordered
pub record TellsUnordered (rows : List (List ℕ)) (states : List NodeState) : Type 0 where
  pub count : length states ≡ length rows
  pub each : (s : ℕ) → s < length rows → is_unordered_at states s ≡ unordered_after (needs_in rows) (length rows) s
