-- For proofs: The steps of a run for many configurations.
use Rattle.std.specs.Prelude.{◌≡◌, true, false, is_some, ℕ, List, [], Option, Some, Result, Ok, Err, String, Vec, length, map, string_bytes}
use Rattle.std.specs.Str.{IsUtf8}
use Rattle.std.specs.declared.alloc.Global.{Global}
use Rattle.kc_io.specs.Log.{Log}
use Rattle.kc_load.specs.Folder.{AreFilesOf, AnswersAs, FolderState, Leads as FolderLeads, files_told}
use Rattle.kc_load.specs.declared.fault.LoadFault.{LoadFault}
use Rattle.kc_load.specs.declared.fault.LoadFault.TheVariants.{CannotRead, Memory}
use Rattle.kc_language.specs.Expansion.{Files}
use Rattle.kc_words.specs.CommandLine.{listed}
use Rattle.kc_words.specs.declared.each.Each.{Each}
use Rattle.kc_conf.specs.Faults.{load_line}
use Rattle.kc_io.specs.Log.{TriesToSay}
use Rattle.kc_conf.specs.declared.reply.Asked.{Asked}
use Rattle.kc_outcome.specs.declared.outcome.Status.{Status}
use Rattle.kc_outcome.specs.declared.outcome.Status.TheVariants as answered
use Rattle.kc_disk.specs.Program.{AreListed, AreNames, GivesOptions, HasNoList, IsUnloaded, TakesTurns, TurnsIncluding}

-- the folder holds this list, or it cannot be read
abbrev pub ReadsList : List ℕ → Result (Vec (String Global) Global) LoadFault → Option FolderState → Option FolderState → Type 0
ReadsList list (Ok names) old new =
    FolderLeads [] old new × ((bytes : List ℕ) × AnswersAs (files_told new) list (Some bytes) × IsUtf8 bytes × (map string_bytes names.items ≡ listed bytes))
ReadsList list (Err (CannotRead name)) old new = HasNoList list old new × (name.items ≡ list)
ReadsList list (Err Memory) old new = (failed : List (List ℕ)) × FolderLeads failed old new

-- the list of this name cannot be read, or there is not enough memory to report that
abbrev pub IsUnreadable : List ℕ → LoadFault → Type 0
IsUnreadable list (CannotRead name) = name.items ≡ list
IsUnreadable list Memory = Unit {0}

-- the same for the list, if there is one
abbrev pub ReadsListIf : Each → Result (Vec (String Global) Global) LoadFault → Option FolderState → Option FolderState → Type 0
ReadsListIf each (Ok names) old new = FolderLeads [] old new × AreListed new each.list (map string_bytes names.items)
ReadsListIf each (Err (CannotRead name)) old new = (file : String Global) × (each.list ≡ Some file) × HasNoList (string_bytes file) old new × (name.items ≡ string_bytes file)
ReadsListIf each (Err Memory) old new = (failed : List (List ℕ)) × FolderLeads failed old new

-- these are the names, or the list cannot be read
abbrev pub FindsNames : Each → Result (Vec (String Global) Global) LoadFault → Option FolderState → Option FolderState → Type 0
FindsNames each (Ok names) old new = FolderLeads [] old new × AreNames each new (map string_bytes names.items)
FindsNames each (Err (CannotRead name)) old new = (file : String Global) × (each.list ≡ Some file) × HasNoList (string_bytes file) old new × (name.items ≡ string_bytes file)
FindsNames each (Err Memory) old new = (failed : List (List ℕ)) × FolderLeads failed old new

-- these are the files of the tree
pub record AreLoaded (each : Each) (folder folder_after : Option FolderState) (files : Files) : Type 0 where
  pub files_are : AreFilesOf (files_told folder_after) (string_bytes each.options.root) (string_bytes each.options.kconfig) each.options.is_flat files
  pub leads : FolderLeads [] folder folder_after

-- the configurations of these names took their turns over the files of the folder, or the files could not be loaded
module _ (asked : Option Asked) (each : Each) (names : List (List ℕ)) (folder folder_after : Option FolderState) (old new : Log) (status : Status) where
  pub data RunsNamed : Type 0 where
    not_loaded : (fault : LoadFault) → IsUnloaded each fault folder folder_after → TriesToSay (load_line fault) old new → status ≡ answered.Faulted → RunsNamed
    included : (files : Files) → is_some each.options.include ≡ true → AreLoaded each folder folder_after files → TurnsIncluding asked files each names status → RunsNamed
    ran : (files : Files) → is_some each.options.include ≡ false → AreLoaded each folder folder_after files →
        TakesTurns asked files (string_bytes each.options.kconfig) (GivesOptions each names) (length names) old new status → RunsNamed

-- the configurations of these names took their turns over the loaded files, with or without files that their input files include
pub data RunsLoaded (asked : Option Asked) (files : Files) (each : Each) (names : List (List ℕ)) (old new : Log) (status : Status) : Type 0 where
  with_included : is_some each.options.include ≡ true → TurnsIncluding asked files each names status → RunsLoaded asked files each names old new status
  as_named : is_some each.options.include ≡ false → TakesTurns asked files (string_bytes each.options.kconfig) (GivesOptions each names) (length names) old new status →
      RunsLoaded asked files each names old new status
