-- What holds while files are loaded.
use Rattle.std.proofs.Common.{All, IsUtf8, List, min, reverse, true, ℕ, ◌++◌, ◌≡◌}
use Rattle.kc_text.specs.PartsOfText.{last_count}
use Rattle.kc_load.specs.{Asking.{AskedAlong, AskedInOrder, FileBytes}, Folder.{Answer, AnswersAs, FolderFiles, files_found, line_total}, Loading.WereWithin, Steps.{State, was_requested}}
use Rattle.kc_language.specs.Files.{path_of}
use Rattle.kc_load.proofs.FoundLemmas.{names_of}

-- each name that was asked for has the file that was found
abbrev pub Agree : List Answer → FileBytes → Type 0
Agree asked files = (name : List ℕ) → was_requested (names_of asked) name ≡ true → files name ≡ files_found asked name

-- whatever is asked for along the names that wait, behind what was asked for it is in order
abbrev pub IsInOrder : List ℕ → List Answer → List (List ℕ) → Type 0
IsInOrder first asked waiting = (files : FileBytes) (more : List (List ℕ)) → Agree asked files → AskedAlong files (names_of asked) waiting more → AskedInOrder files first (names_of asked ++ more)

pub record Ongoing (folder_files : FolderFiles) (dir first : List ℕ) (s : State) : Type 0 where
  pub asked : List Answer
  pub requested_are : s.requested ≡ names_of asked
  pub held : (name : List ℕ) → s.files name ≡ files_found asked name
  pub answers : All (λ (a : Answer). AnswersAs folder_files (path_of dir a.name) a.bytes) asked
  pub texts : All (λ (a : Answer). IsUtf8 a.name) asked
  pub total : s.lines ≡ min (line_total asked) last_count
  pub within : WereWithin asked
  pub in_order : IsInOrder first asked (reverse s.waiting)
