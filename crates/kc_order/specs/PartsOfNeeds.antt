-- Trusted: Parts of the definitions of Needs, with names of their own.
use Rattle.std.specs.{List.list_any, Prelude.{List, Some, false, find, length, nat_eq, ℕ, ◌&&◌, ◌<◌, ◌≡◌}}
use Rattle.kc_language.specs.Needs.{needs, needs_in, unordered_after}

-- no symbol is unordered after as many steps as there are symbols
abbrev pub AreAccepted : List (List ℕ) → Type 0
AreAccepted needs = (s : ℕ) → s < length needs → unordered_after (needs_in needs) (length needs) s ≡ false

-- none of the first n symbols is unordered after n iterations
abbrev pub NothingUnordered : ℕ → (ℕ → List ℕ) → Type 0
NothingUnordered n needs = (s : ℕ) → s < n → unordered_after needs n s ≡ false

-- t is the first unordered symbol of the sequence
abbrev pub IsFirstUnordered : List ℕ → ℕ → (ℕ → List ℕ) → ℕ → Type 0
IsFirstUnordered sequence n needs t = find (unordered_after needs n) sequence ≡ Some t

-- t is the first unordered symbol of the sequence that s needs
abbrev pub IsNext : List ℕ → ℕ → (ℕ → List ℕ) → ℕ → ℕ → Type 0
IsNext sequence n needs s t = find (λ u. unordered_after needs n u && list_any (nat_eq u) (needs s)) sequence ≡ Some t
