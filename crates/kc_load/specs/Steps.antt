-- For proofs: The state of loading, and one step for one name.
use Rattle.std.specs.{List.list_any, Prelude.{Bool, List, None, Some, [], false, if◌then◌else◌, map, min, reverse, true, ℕ, ◌++◌, ◌+◌, ◌∷◌, ◌≡◌}, Str.IsUtf8}
use Rattle.kc_text.specs.PartsOfText.{last_count}
use Rattle.kc_language.specs.{Expansion.bytes_in, Expressions.{mention, same_name}, Files.path_of}
use Rattle.kc_entries.specs.PartsOfExpansion.{lines_of}
use Rattle.kc_load.specs.{Asking.{AreSources, FileBytes}, Folder.{AnswersAs, FolderFiles}, declared.{fault.LoadFault.{LoadFault, TheVariants.{CannotRead, Memory}}, loading.Loading.Loading}}

-- the loaded files, the names that were read, the names that wait (the next one last), and the number of lines
pub record State : Type 0 where
  pub files : FileBytes
  pub requested : List (List ℕ)
  pub waiting : List (List ℕ)
  pub lines : ℕ

abbrev pub state_of : Loading → State
state_of l = record { files = bytes_in l.files.entries; requested = l.requested; waiting = map (λ n. n.items) l.waiting.items; lines = l.lines }

abbrev pub initial_state : List ℕ → State
initial_state first = record { files = λ name. None; requested = []; waiting = first ∷ []; lines = 0 }

abbrev pub was_requested : List (List ℕ) → List ℕ → Bool
was_requested requested name = list_any (same_name name) requested

-- adds the names in the file's `source` lines to those that wait, the first one last
pub record PushesSources (file : List ℕ) (old new : State) : Type 0 where
  pub names : List (List ℕ)
  pub sources : AreSources file names
  pub waiting_is : new.waiting ≡ old.waiting ++ reverse names
  pub files_are : new.files ≡ old.files
  pub requested_are : new.requested ≡ old.requested
  pub lines_are : new.lines ≡ old.lines

-- adds the file of this name: its bytes, its lines, and the names that it sources
pub record AddsFile (name bytes : List ℕ) (old new : State) : Type 0 where
  pub names : List (List ℕ)
  pub sources : AreSources bytes names
  pub waiting_is : new.waiting ≡ old.waiting ++ reverse names
  pub puts : (other : List ℕ) → new.files other ≡ (if same_name other name then Some bytes else old.files other)
  pub requested_are : new.requested ≡ old.requested
  pub lines_are : new.lines ≡ min (old.lines + lines_of bytes) last_count

-- adds this name to those that were read, and changes nothing else
pub record AddsName (name : List ℕ) (old new : State) : Type 0 where
  pub files_are : new.files ≡ old.files
  pub waiting_is : new.waiting ≡ old.waiting
  pub requested_are : new.requested ≡ mention old.requested name
  pub lines_are : new.lines ≡ old.lines

-- this name is next: it was not read before
pub record IsDue (s : State) (name : List ℕ) : Type 0 where
  pub utf8 : IsUtf8 name
  pub is_new : was_requested s.requested name ≡ false

-- One step, for one name.
pub data Visits (folder_files : FolderFiles) (dir name : List ℕ) (old new : State) : Type 0 where
  no_text : (IsUtf8 name → ⊥) → new ≡ old → Visits folder_files dir name old new
  not_new : was_requested old.requested name ≡ true → new ≡ old → Visits folder_files dir name old new
  no_file : IsDue old name → AnswersAs folder_files (path_of dir name) None → AddsName name old new → Visits folder_files dir name old new
  file : (middle : State) (bytes : List ℕ) → IsDue old name → AnswersAs folder_files (path_of dir name) (Some bytes) →
      AddsName name old middle → AddsFile name bytes middle new → Visits folder_files dir name old new

-- the file of the next name could not be read
abbrev pub FailsAt : State → List ℕ → LoadFault → Type 0
FailsAt s name (CannotRead n) = (n.items ≡ name) × IsDue s name
FailsAt s name Memory = Unit {0}
