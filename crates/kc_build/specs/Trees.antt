-- Trusted: The tree of a file map and a root file.
use Rattle.std.specs.Prelude.{List, Ok, Result, ℕ, ◌≡◌}
use Rattle.kc_language.specs.{Expansion.{Files, Refused}, Symbols.{IsTreeOf, TreeFacts}}
use Rattle.kc_entries.specs.WellFormed.{IsWellFormed}

-- a root file gives at most one tree or refusal
abbrev pub OneTree : Type 0
OneTree = (files : Files) (root : List ℕ) (r other : Result TreeFacts Refused) → IsTreeOf files root r → IsTreeOf files root other → r ≡ other

-- with any files a root file gives exactly one tree or refusal
abbrev pub HasOneTree : Type 0
HasOneTree =
    (files : Files) (root : List ℕ) →
    (r : Result TreeFacts Refused) × IsTreeOf files root r × ((other : Result TreeFacts Refused) → IsTreeOf files root other → r ≡ other)

-- the tree of a root file is well formed
abbrev pub TreesAreWellFormed : Type 0
TreesAreWellFormed = (files : Files) (root : List ℕ) (tree : TreeFacts) → IsTreeOf files root (Ok tree) → IsWellFormed tree
