-- Trusted: The loop that is reported if some symbol is unordered.
-- A sequence of symbols says which of several symbols is the first: the one that comes first in it.
use Rattle.std.specs.{List.Contains, Prelude.{List, length, slice_index, ℕ, ◌+◌, ◌<◌}}
use Rattle.kc_language.specs.Needs.{needs_in}

-- the sequence has each symbol that needs some symbol
abbrev pub HoldsNeeding : List ℕ → List (List ℕ) → Type 0
HoldsNeeding sequence needs = (s t : ℕ) → Contains (needs_in needs s) t → Contains sequence s

-- a path along needs from symbol to symbol
abbrev pub IsPath : (ℕ → List ℕ) → List ℕ → Type 0
IsPath needs way = (k : ℕ) → k + 1 < length way → Contains (needs (slice_index way k)) (slice_index way (k + 1))
