-- Trusted: The files that an expansion opens.
use Rattle.std.specs.{List.Contains, Prelude.{List, Ok, Result, Some, [], false, ℕ, ◌++◌, ◌∷◌, ◌≡◌}}
use Rattle.kc_language.specs.{Expansion.{AreOpened, Expands, Files, ReadSoFar, Reading, Refused, Rest, SourceNames, at_end, at_root, bad_source, goes_on, refused, refused_inside, source, unclosed}, Lines.{UnreadLines, unread_lines}}

-- there is such a list, and it is unique if the root file is accepted
abbrev pub OpenedAreOneList : Type 0
OpenedAreOneList =
    (files : Files) (root : List ℕ) → (names : List (List ℕ)) × AreOpened files root names
    × ((log : ReadSoFar) (others : List (List ℕ)) → Expands files root (Ok log) → AreOpened files root others → others ≡ names)

-- The files that the rest of a file tries to open, in order: those that are opened and, as the last one, a file that cannot be opened,
-- if there is one.
abbrev pub sourced_files : {files : Files} {at : Reading} {r : Result ReadSoFar Refused} → Rest files at r → List (List ℕ)
sourced_files (at_end at none closed) = []
sourced_files (unclosed at opener none unmatched) = []
sourced_files (refused at c (bad_source m name why next e)) = name ∷ []
sourced_files (refused at c here) = []
sourced_files (goes_on at next r step d) = sourced_files d
sourced_files (refused_inside at f e d) = f.name ∷ sourced_files d
sourced_files (source at f more r d after) = f.name ∷ sourced_files d ++ sourced_files after

-- these lines have a list of names that holds this name
abbrev pub IsNamedIn : UnreadLines → List ℕ → Type 0
IsNamedIn l name = (names : List (List ℕ)) × SourceNames l names × Contains names name

-- one of these files names it in a `source` line
abbrev pub IsNamedByOne : Files → List (List ℕ) → List ℕ → Type 0
IsNamedByOne files before name = (by bytes : List ℕ) × Contains before by × (files.bytes by ≡ Some bytes) × IsNamedIn (unread_lines bytes 1) name

-- Each file that an expansion tries to open after the root is named in a file that was opened before. (A flat tree has no other file.)
abbrev pub SourcedFilesAreNamed : Type 0
SourcedFilesAreNamed =
    (files : Files) (root bytes : List ℕ) (r : Result ReadSoFar Refused) → files.flat ≡ false → files.bytes root ≡ Some bytes →
    (d : Rest files (at_root files root bytes) r) (before after : List (List ℕ)) (name : List ℕ) →
    sourced_files d ≡ before ++ name ∷ after → IsNamedByOne files (root ∷ before) name

-- lines have exactly one list of names
abbrev pub HasOneListOfNames : Type 0
HasOneListOfNames = (l : UnreadLines) → (names : List (List ℕ)) × SourceNames l names × ((other : List (List ℕ)) → SourceNames l other → names ≡ other)
