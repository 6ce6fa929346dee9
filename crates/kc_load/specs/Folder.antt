-- Trusted: What a folder records of its files, in which order the files of a tree are loaded, and why loading ends early (our own).
-- A folder in memory records everything until it runs out of memory. A folder on a disk records nothing.
use Rattle.std.specs.{Prelude.{All, Bool, Err, IfOk, List, MatchOption, None, Option, Result, Some, Vec, [], if◌then◌else◌, length, map, option_map, true, ℕ, ◌&&◌, ◌++◌, ◌+◌, ◌∷◌, ◌≡◌, ◌≤◌}, Str.is_utf8, declared.alloc.Global.Global}
use Rattle.kc_language.specs.{Expansion.Files, Expressions.same_name, Files.path_of, Lines.physical_lines, Text.most_lines}
use Rattle.kc_load.specs.{Asking.{AskedInOrder, FileBytes}, declared.{fault.LoadFault.{LoadFault, TheVariants.CannotRead}, folder.FolderFault.{FolderFault, TheVariants.Device}}}

-- ---- Reading a file

-- What each path holds, and the paths at which a read failed, in order.
pub record FolderState : Type 0 where
  pub files : List ℕ → Option (List ℕ)
  pub failed : List (List ℕ)

-- What each path holds, if that is recorded. A result of a read (bytes, or no file) agrees with it.
abbrev pub FolderFiles : Type 0
FolderFiles = Option (List ℕ → Option (List ℕ))

abbrev pub files_told : Option FolderState → FolderFiles
files_told state = option_map (λ s. s.files) state

abbrev pub AnswersAs : FolderFiles → List ℕ → Option (List ℕ) → Type 0
AnswersAs None path found = Unit {0}
AnswersAs (Some files) path found = files path ≡ found

-- The new state is the old one plus failed reads at these paths. A folder may stop recording.
pub record Leads (failed : List (List ℕ)) (old new : Option FolderState) : Type 0 where
  pub told : (after : FolderState) → new ≡ Some after →
      (before : FolderState) × (old ≡ Some before) × (after ≡ record before { failed = before.failed ++ failed })

-- The failed paths of a read of this path: the path, if the device failed; none if there was not enough memory.
abbrev pub failed_read : {A : Type 0} → List ℕ → Result A FolderFault → List (List ℕ)
failed_read path (Err Device) = path ∷ []
failed_read path _ = []

-- A read of a path returns what the path holds. A failure of the device is recorded.
pub record ReadsAt (path : List ℕ) (old new : Option FolderState) (result : Result (Option (Vec ℕ Global)) FolderFault) : Type 0 where
  pub leads : Leads (failed_read path result) old new
  pub answer : IfOk result (λ found. AnswersAs (files_told new) path (option_map (λ bytes. bytes.items) found))

-- ---- Loading the files of a tree

-- The folder's files by their names in `source` lines, if they are recorded: a name is that of the file at `path_of dir name`. It must be UTF-8. A
-- flat tree has only the first file.
abbrev pub is_read : List ℕ → Bool → List ℕ → Bool
is_read first flat name = is_utf8 name && (if flat then same_name name first else true)

pub record AreFilesOf (folder_files : FolderFiles) (dir first : List ℕ) (flat : Bool) (files : Files) : Type 0 where
  pub flat_is : files.flat ≡ flat
  pub bytes_are : MatchOption folder_files (Unit {0}) (λ held. files.bytes ≡ (λ name. if is_read first flat name then held (path_of dir name) else None))

-- A name that was read, with the bytes of its file, or none if there is no file.
pub record Answer : Type 0 where
  pub name : List ℕ
  pub bytes : Option (List ℕ)

-- The files that were found; and the number of their lines.
abbrev pub files_found : List Answer → FileBytes
files_found [] name = None
files_found (a ∷ more) name = if same_name name a.name then a.bytes else files_found more name

abbrev pub line_total : List Answer → ℕ
line_total [] = 0
line_total (a ∷ more) = (elim a.bytes [ None ↦ 0 | Some bytes ↦ length (physical_lines bytes) ]) + line_total more

-- Files are read in the order in which the tree sources them: these were read, with these results, and those come next.
pub record AreAsked (folder_files : FolderFiles) (dir first : List ℕ) (asked : List Answer) (next : List (List ℕ)) : Type 0 where
  pub in_order : AskedInOrder (files_found asked) first (map (λ a. a.name) asked ++ next)
  pub answers : All (λ a. AnswersAs folder_files (path_of dir a.name) a.bytes) asked

-- This name comes next, and the files before it do not exceed the limit of lines.
pub record IsNext (folder_files : FolderFiles) (dir first name : List ℕ) : Type 0 where
  pub asked : List Answer
  pub behind : List (List ℕ)
  pub are_asked : AreAsked folder_files dir first asked (name ∷ behind)
  pub within : line_total asked ≤ most_lines

-- Why loading fails: the next file could not be read, or there was not enough memory. And the path at which the device failed, if it did.
abbrev pub IsLoadFault : FolderFiles → List ℕ → List ℕ → LoadFault → Type 0
IsLoadFault folder_files dir first (CannotRead name) = IsNext folder_files dir first name.items
IsLoadFault folder_files dir first _ = Unit {0}

abbrev pub failed_load : {A : Type 0} → List ℕ → Result A LoadFault → List (List ℕ)
failed_load dir (Err (CannotRead name)) = path_of dir name.items ∷ []
failed_load dir _ = []
