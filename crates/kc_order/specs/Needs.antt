-- Trusted: Which symbols a symbol needs, and which symbols are unordered: no order can reach them.
-- Symbols are numbered from 0.
use Rattle.std.specs.{List.Contains, Prelude.{List, length, true, ℕ, ◌<◌, ◌≡◌}}
use Rattle.kc_language.specs.Needs.{needs_in, unordered_after}

-- each need of one of the first n symbols is one of them
abbrev pub NeedsBelow : ℕ → (ℕ → List ℕ) → Type 0
NeedsBelow n needs = (s t : ℕ) → s < n → Contains (needs s) t → t < n

-- each need of a symbol is a symbol
abbrev pub AreWithin : List (List ℕ) → Type 0
AreWithin needs = NeedsBelow (length needs) (needs_in needs)

-- one of the first n symbols is unordered after n iterations
abbrev pub SomeUnordered : ℕ → (ℕ → List ℕ) → Type 0
SomeUnordered n needs = (s : ℕ) × (s < n) × (unordered_after needs n s ≡ true)

-- each symbol needs the same symbols, in any order and any number of times
pub record AreAlike (needs other : List (List ℕ)) : Type 0 where
  pub count : length needs ≡ length other
  pub onward : (s t : ℕ) → Contains (needs_in needs s) t → Contains (needs_in other s) t
  pub back : (s t : ℕ) → Contains (needs_in other s) t → Contains (needs_in needs s) t
