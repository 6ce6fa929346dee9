-- Trusted: Symbols in an order in which each comes after what it needs.
use Rattle.std.specs.{List.{Contains, IsDistinct}, Prelude.{List, length, nat_eq, slice_index, take, ℕ, ◌<◌}}
use Rattle.kc_language.specs.Needs.{needs_in}

-- each need of a symbol comes before it
abbrev pub NeedsFirst : (ℕ → List ℕ) → List ℕ → Type 0
NeedsFirst needs symbols = (k t : ℕ) → k < length symbols → Contains (needs (slice_index symbols k)) t → Contains (take k symbols) t

-- the first n symbols, each once, each after what it needs
pub record IsOrderOf (n : ℕ) (needs : ℕ → List ℕ) (symbols : List ℕ) : Type 0 where
  pub all_there : (s : ℕ) → s < n → Contains symbols s
  pub all_below : (s : ℕ) → Contains symbols s → s < n
  pub apart : IsDistinct nat_eq symbols
  pub needs_first : NeedsFirst needs symbols

-- all symbols, each once, each after what it needs
abbrev pub Orders : List (List ℕ) → List ℕ → Type 0
Orders needs symbols = IsOrderOf (length needs) (needs_in needs) symbols
