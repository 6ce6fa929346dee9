-- Trusted: The expanded list: the statements of a file, with those of a sourced file in place of its `source` line.
use Rattle.std.specs.Prelude.{◌≡◌, ℕ, List, Result}
use Rattle.kc_language.specs.Expansion.{Files, Refused, ReadSoFar, Expands}

-- a root file gives at most one list or refusal
abbrev pub OneExpansion : Type 0
OneExpansion = (files : Files) (root : List ℕ) (r other : Result ReadSoFar Refused) → Expands files root r → Expands files root other → r ≡ other
