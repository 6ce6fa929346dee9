-- Trusted: The order in which the files of a tree are read: the order of their `source` lines (our own).
use Rattle.std.specs.Prelude.{Contains, IsUtf8, List, None, Option, Some, [], false, ℕ, ◌++◌, ◌∷◌, ◌≡◌}
use Rattle.kc_language.specs.{Expansion.{Files, SourceNames}, Lines.unread_lines}

-- The bytes of each file by its name, if there is such a file; a tree of such files that is not flat.
abbrev pub FileBytes : Type 0
FileBytes = List ℕ → Option (List ℕ)

abbrev pub tree_of : FileBytes → Files
tree_of files = record { bytes = files; flat = false }

-- the names in a file's `source` lines, in order; none if there is no such file
abbrev pub AreSources : List ℕ → List (List ℕ) → Type 0
AreSources bytes names = SourceNames (unread_lines bytes 1) names

abbrev pub AreSourcesOf : Option (List ℕ) → List (List ℕ) → Type 0
AreSourcesOf file = elim file [ None ↦ λ names. names ≡ [] | Some bytes ↦ AreSources bytes ]

-- The names that are read for this list of names, if others were read before: for each new name, that name, then those for the `source` lines of its
-- file, then those for the names after it. A new name is UTF-8 and was not read before.
abbrev pub IsNew : List (List ℕ) → List ℕ → Type 0
IsNew before name = IsUtf8 name × (Contains before name → ⊥)

pub data AskedAlong (files : FileBytes) : List (List ℕ) → List (List ℕ) → List (List ℕ) → Type 0 where
  ended : (before : List (List ℕ)) → AskedAlong files before [] []
  passed : (before names asked : List (List ℕ)) (name : List ℕ) → (IsNew before name → ⊥) → AskedAlong files before names asked →
      AskedAlong files before (name ∷ names) asked
  asked : (before names sources inside behind : List (List ℕ)) (name : List ℕ) → IsNew before name → AreSourcesOf (files name) sources →
      AskedAlong files (before ++ name ∷ []) sources inside → AskedAlong files (before ++ name ∷ inside) names behind →
      AskedAlong files before (name ∷ names) (name ∷ inside ++ behind)

-- the names that are read from a first name on: depth first, each name once
abbrev pub AskedInOrder : FileBytes → List ℕ → List (List ℕ) → Type 0
AskedInOrder files first names = AskedAlong files [] (first ∷ []) names
