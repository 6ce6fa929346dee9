-- What holds while files are loaded from a folder that may stop telling.
use Rattle.std.proofs.Common.{List, Option, [], false, true, ℕ, ◌++◌, ◌<◌, ◌∷◌, ◌≡◌, ◌≤◌}
use Rattle.kc_language.specs.Text.{most_lines}
use Rattle.kc_load.specs.{Asking.tree_of, Folder.{FolderFiles, FolderState, IsLoadFault, Leads, files_told}, Loading.{Loads, Suffices}, Steps.{FailsAt, State, Visits, initial_state}, declared.fault.LoadFault.LoadFault}
use Rattle.kc_load.proofs.EndLemmas as ends
use Rattle.kc_load.proofs.{EnoughLemmas.enough, FolderLemmas.{AreTold, are_told, told_before, visits_told}, Ongoing.Ongoing, TurnLemmas.turn, Walks.{IsOnWay, ended_walk, over_walk, walk_begins, walk_goes_on}}

-- the loading is under way, over the files that are told now and over none
abbrev pub SoFar : Option FolderState → List ℕ → List ℕ → State → Type 0
SoFar told dir first s = (folder_files : FolderFiles) → AreTold folder_files told → Ongoing folder_files dir first s × IsOnWay folder_files dir first s

pub at_start : (told : Option FolderState) (dir first : List ℕ) → SoFar told dir first (initial_state first)
at_start told dir first = λ folder_files are. (ends.at_start folder_files dir first, walk_begins folder_files dir first)

module _ (told : Option FolderState) (dir first : List ℕ) (s : State) (so_far : SoFar told dir first s) where
  -- the turn of a name
  pub turned : s.lines ≤ most_lines → (later : Option FolderState) (failed : List (List ℕ)) → Leads failed told later → (rest : List (List ℕ)) (name : List ℕ) → s.waiting ≡ rest ++ name ∷ [] →
      (n : State) → Visits (files_told later) dir name (record s { waiting = rest }) n → SoFar later dir first n
  turned within later failed leads rest name last n visits = λ folder_files are.
      let (ongoing, on_way) = so_far folder_files (told_before folder_files told later failed leads are) in
      let v = visits_told folder_files later are dir name (record s { waiting = rest }) n visits in
      (turn folder_files dir first s ongoing rest name last within n v, walk_goes_on folder_files dir first s rest name last on_way n v)

  -- the file of a name could not be read
  pub at_fault : s.lines ≤ most_lines → (later : Option FolderState) (failed : List (List ℕ)) → Leads failed told later → (rest : List (List ℕ)) (name : List ℕ) → s.waiting ≡ rest ++ name ∷ [] →
      (fault : LoadFault) → FailsAt (record s { waiting = rest }) name fault → IsLoadFault (files_told later) dir first fault
  at_fault within later failed leads rest name last fault fails =
      let (ongoing, on_way) = so_far (files_told later) (told_before (files_told later) told later failed leads (are_told later)) in
      ends.at_fault (files_told later) dir first s ongoing within rest name last fault fails

  -- no name waits
  pub loaded_at_end : s.waiting ≡ [] → Loads (files_told told) dir first s.files
  loaded_at_end none = let (ongoing, on_way) = so_far (files_told told) (are_told told) in ends.at_end (files_told told) dir first s ongoing none

  pub enough_at_end : s.waiting ≡ [] → Suffices (files_told told) dir first false (tree_of s.files)
  enough_at_end none =
      let (ongoing, on_way) = so_far (files_told told) (are_told told) in
      enough (files_told told) dir first s ongoing false (ended_walk (files_told told) dir first s on_way none)

  -- there are too many lines
  pub loaded_over : most_lines < s.lines → Loads (files_told told) dir first s.files
  loaded_over over = let (ongoing, on_way) = so_far (files_told told) (are_told told) in ends.when_over (files_told told) dir first s ongoing over

  pub enough_over : most_lines < s.lines → Suffices (files_told told) dir first false (tree_of s.files)
  enough_over over =
      let (ongoing, on_way) = so_far (files_told told) (are_told told) in
      enough (files_told told) dir first s ongoing true (over_walk (files_told told) dir first s on_way over)
