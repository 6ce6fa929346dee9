-- Trusted: What loading gives: the files that were found, read in order, and that they are enough.
use Rattle.std.specs.{Prelude.{All, Bool, Contains, List, None, Ok, Option, Result, Some, [], if◌then◌else◌, true, ℕ, ◌++◌, ◌∷◌, ◌≡◌, ◌≤◌}, Str.IsUtf8}
use Rattle.kc_expr.specs.Names.{AreDistinct}
use Rattle.kc_language.specs.{Expansion.{Expands, Files, ReadSoFar, Refused}, Expressions.same_name, Files.path_of, Statements.{Located, Named}, Text.most_lines}
use Rattle.kc_load.specs.{Asking.{AreSources, AskedInOrder, FileBytes}, Folder.{Answer, AnswersAs, AreAsked, AreFilesOf, FolderFiles, files_found, line_total}}

-- before each read, there were no more lines than the limit
abbrev pub WereWithin : List Answer → Type 0
WereWithin asked = (before after : List Answer) (a : Answer) → asked ≡ before ++ a ∷ after → line_total before ≤ most_lines

-- The map holds exactly the files that were found, and no name comes next, unless the lines exceed the limit.
pub record Loads (folder_files : FolderFiles) (dir first : List ℕ) (files : FileBytes) : Type 0 where
  pub asked : List Answer
  pub next : List (List ℕ)
  pub are_asked : AreAsked folder_files dir first asked next
  pub within : WereWithin asked
  pub are_all : line_total asked ≤ most_lines → next ≡ []
  pub held : (name : List ℕ) → files name ≡ files_found asked name

-- In a flat tree only the first file is read. It was found, and the map holds only this file.
pub record LoadsFlat (folder_files : FolderFiles) (dir first : List ℕ) (files : Files) : Type 0 where
  pub flat_is : files.flat ≡ true
  pub found : Option (List ℕ)
  pub answer : AnswersAs folder_files (path_of dir first) found
  pub held : (name : List ℕ) → files.bytes name ≡ (if same_name name first then found else None)

-- for a folder that records its files there is at most one such map
abbrev pub OneMap : Type 0
OneMap =
    (folder_files : List ℕ → Option (List ℕ)) (dir first : List ℕ) (files others : FileBytes) → Loads (Some folder_files) dir first files →
    Loads (Some folder_files) dir first others → (name : List ℕ) → files name ≡ others name

-- for a folder that records its files there is such a map
abbrev pub MapExists : Type 0
MapExists = (folder_files : List ℕ → Option (List ℕ)) (dir first : List ℕ) → (files : FileBytes) × Loads (Some folder_files) dir first files

-- ---- the order

-- for any files there is at most one such order
abbrev pub OneOrder : Type 0
OneOrder = (files : FileBytes) (first : List ℕ) (names others : List (List ℕ)) → AskedInOrder files first names → AskedInOrder files first others → names ≡ others

-- The names that a first one reaches: itself, and each UTF-8 name in a `source` line of the file of a reached name.
pub data Reached (files : FileBytes) (first : List ℕ) : List ℕ → Type 0 where
  itself : Reached files first first
  sourced : (file bytes name : List ℕ) (names : List (List ℕ)) → Reached files first file → files file ≡ Some bytes → AreSources bytes names →
      Contains names name → IsUtf8 name → Reached files first name

-- for the files that were found there is an order in which names are read
abbrev pub HasOrder : Type 0
HasOrder = (asked : List Answer) (first : List ℕ) → (names : List (List ℕ)) × AskedInOrder (files_found asked) first names

-- The names that are read are those that the first name reaches, each once.
abbrev pub OrderIsReached : Type 0
OrderIsReached =
    (files : FileBytes) (first : List ℕ) (names : List (List ℕ)) → IsUtf8 first → AskedInOrder files first names →
    AreDistinct names × ((name : List ℕ) → Contains names name → Reached files first name) × ((name : List ℕ) → Reached files first name → Contains names name)

-- ---- it is enough

-- From both file maps, the root file gives the same list and opens the same files, or gives the same refusal. The files of the list's lines have the
-- same bytes.
pub record ExpandsAlike (root : List ℕ) (files others : Files) : Type 0 where
  pub gives : (r : Result ReadSoFar Refused) → (Expands files root r → Expands others root r) × (Expands others root r → Expands files root r)
  pub holds : (log : ReadSoFar) → Expands files root (Ok log) → All (λ (l : Located Named). others.bytes l.file ≡ files.bytes l.file) log.lines

-- The loaded files are enough: the first file gives the same, and opens the same files, as with all files of the folder. The files of the lines are
-- the same as in the folder.
abbrev pub Suffices : FolderFiles → List ℕ → List ℕ → Bool → Files → Type 0
Suffices folder_files dir first flat loaded = (files : Files) × AreFilesOf folder_files dir first flat files × ExpandsAlike first files loaded
