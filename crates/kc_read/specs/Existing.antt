-- Trusted: A root file has exactly one expansion.
use Rattle.std.specs.Prelude.{◌≡◌, ℕ, List, Result}
use Rattle.kc_language.specs.Expansion.{ReadSoFar, Refused, Expands, Files}

-- with any files a root file gives exactly one list or refusal
abbrev pub HasOneExpansion : Type 0
HasOneExpansion = (files : Files) (root : List ℕ) → (r : Result ReadSoFar Refused) × Expands files root r × ((other : Result ReadSoFar Refused) → Expands files root other → r ≡ other)
