-- Trusted: Why a run stops early, and how it ends.
-- Our own. It ends in `Runs` and, for the tree of a folder, `FolderRuns`. Claims about files are for devices that record what files hold (kc_io).
use Rattle.std.specs.Prelude.{◌≡◌, ◌⊎◌, ℕ, if◌then◌else◌, List, [], ◌++◌, ◌||◌, take, filter, slice_get, slice_index_or, string_bytes, Option, None, Some, Result, Ok, Err, ⊤}
use Rattle.std.specs.Option.{option_or}
use Rattle.kc_language.specs.{ConfigFile.{lines_from, lines_of, reading}, Expansion.{AreOpened, Files, Refused}, Symbols.{TreeFacts}, Text.{BeginsWith, GoesBeyond}, Texts.{HasShortLines}, Statements.{cannot_read_line, out_of_memory_line, run_error_text, error_line}, declared.diagnostics.RunError.{RunError}}
use Rattle.kc_outcome.specs.{Outcome.{IsAcceptedTree, IsOutcome, IsRefusedTree, Options, Outcome, fresh_input, lead, lines_text, input_names, read_of, root_file, streams, unknown_name, unreadable_name}, declared.outcome.{Delivery.{Delivery}, Status.{Status}}}
use Rattle.kc_io.specs.{Delivery.{NamedText, StopsBefore, cleared_by, delivers, stale_lines, stale_texts, status_with, texts_of}, Inputs.{AreInputs, AreThere, HasTurn, InputFile, ReadsTo, begun, bytes_of, reads, still_told}, Log.{Event, Leads, Log, Tells, TriesToSay, failed, reported, said}, declared.{device.{Action.{Action, TheVariants.{Open, Read, Report}}, Fault.Fault}, steps.Failure.Failure}}
use Rattle.kc_load.specs.{Folder.{AreFilesOf, IsLoadFault, failed_load, FolderState, Leads as FolderLeads, files_told}, declared.fault.LoadFault.LoadFault}
use Rattle.kc_conf.specs.declared.stop.Stop.{Stop}

-- ---- Names and lines
-- The first refused name: one in the dependency file that make cannot read, or one to be explained that no symbol has.
abbrev pub refused_name_of : Options → List (List ℕ) → TreeFacts → Option (List ℕ)
refused_name_of options opened tree = option_or (unreadable_name options opened) (unknown_name options tree)

-- No name is refused. Or the tree is accepted, and this is the first refused name.
abbrev pub NamesAreTaken : Files → Options → Type 0
NamesAreTaken files options = (tree : TreeFacts) (opened : List (List ℕ)) → IsAcceptedTree files (root_file options) tree →
    AreOpened files (root_file options) opened → refused_name_of options opened tree ≡ None

pub record IsRefusedName (files : Files) (options : Options) (name : List ℕ) : Type 0 where
  pub tree : TreeFacts
  pub accepted : IsAcceptedTree files (root_file options) tree
  pub opened : List (List ℕ)
  pub are_opened : AreOpened files (root_file options) opened
  pub refuses : refused_name_of options opened tree ≡ Some name

-- All diagnostics of an outcome; the text is whole lines.
abbrev pub diagnostics_of : Outcome → List ℕ
diagnostics_of outcome = outcome.warned ++ outcome.refusal

abbrev pub AreLines : List ℕ → Type 0
AreLines text = (lines : List (List ℕ)) × (text ≡ lines_text lines)

-- ---- An input file that cannot be read
-- The warnings of the files before file i, and of the complete lines in these first bytes of file i.
abbrev pub warned_by : Options → TreeFacts → List InputFile → ℕ → List ℕ → List ℕ
warned_by options tree files i bytes = (reading tree options.prefix (fresh_input options tree) (lines_of (streams (input_names options)
    (bytes_of (take i files))) ++ filter (λ l. l.ended) (lines_from (slice_index_or (input_names options) i []) 1 bytes))).warned

-- This was done when a file could not be opened or read on. The files before it exist and were read, it was next, and these of its bytes were read,
-- in which no line is too long. The warnings up to there were reported, unless --strict or --strict-tree holds them back.
pub record ReadsUpTo (told : Log) (options : Options) (tree : TreeFacts) (files : List InputFile) (action : Action) (file : InputFile)
    (done : List Event) (said : List ℕ) : Type 0 where
  pub i : ℕ
  pub is_file : slice_get files i ≡ Some file
  pub turn : HasTurn files i
  pub there : AreThere told (take i files)
  pub bytes : List ℕ
  pub begins : BeginsWith file.bytes bytes
  pub short : HasShortLines bytes
  pub nothing_before : action ≡ Open → bytes ≡ []
  pub done_is : done ≡ reads (take i files) ++ begun action file.name bytes
  pub said_is : said ≡ (if options.strict || options.strict_tree then [] else warned_by options tree files i bytes)

-- ---- Why a run stops early
-- the event of the failure, and the removal of the temporary files after a failure to write with --replace
abbrev pub event_of : Stop → List Event
event_of stop = elim stop [ Stop.OutOfMemory ↦ [] | Stop.Failed f ↦ failed f.action f.name.now f.fault ]

abbrev pub clearing : Options → Stop → List Event
clearing options stop = elim stop [ Stop.OutOfMemory ↦ [] | Stop.Failed f ↦ cleared_by options.delivery f.action ]

-- the error line of a run that stopped early; a failure of the diagnostics has none
abbrev pub stop_line : Options → Stop → List ℕ
stop_line options Stop.OutOfMemory = lead options ++ out_of_memory_line
stop_line options (Stop.Failed f) = elim f.action [
  | Report ↦ []
  | action ↦ elim f.fault [
    | Fault.Memory ↦ lead options ++ out_of_memory_line
    | Fault.Refused ↦ lead options ++ (elim action [ Open ↦ cannot_read_line f.name.now | Read ↦ cannot_read_line f.name.now | _ ↦ error_line (run_error_text (RunError.CannotWrite f.name.now)) ])
  ]
]

-- The run reports why it stopped early, unless the diagnostics fail. After a failure of the diagnostics they are not used again.
abbrev pub IsReport : Stop → Result (Unit {0}) Fault → Type 0
IsReport Stop.OutOfMemory report = ⊤
IsReport (Stop.Failed f) report = elim f.action [ Report ↦ report ≡ Ok tt | _ ↦ ⊤ ]

-- ---- How a run ends
-- What a complete run reads: nothing if the tree or a name is refused; otherwise its input files, up to a line that is too long. Each file exists, or
-- was found to be missing. (`told` is what the device recorded at first.)
pub data AreReads (files : Files) (options : Options) (inputs : List InputFile) (told : Log) : List Event → Type 0 where
  refused_tree : (r : Refused) → IsRefusedTree files (root_file options) r → AreReads files options inputs told []
  refused_name : (name : List ℕ) → IsRefusedName files options name → AreReads files options inputs told []
  of_tree : (tree : TreeFacts) (events : List Event) → IsAcceptedTree files (root_file options) tree → NamesAreTaken files options →
      AreThere told inputs → ReadsTo inputs (read_of options tree (bytes_of inputs)).stopped events → AreReads files options inputs told events

-- It reads, reports the outcome's diagnostics and the stale files, and delivers the outcome's texts.
pub record Completes (files : Files) (options : Options) (inputs : List InputFile) (outcome : Outcome) (old new : Log) (status : Status) : Type 0 where
  pub events : List Event
  pub are_reads : AreReads files options inputs (still_told old new) events
  pub made : List Event
  pub stale : List NamedText
  pub of_old : Tells (still_told old new) (λ journal.
      (made ≡ delivers options (texts_of options outcome) journal) × (stale ≡ stale_texts options (texts_of options outcome) journal))
  pub log : Leads (events ++ made) (diagnostics_of outcome ++ stale_lines options stale) old new
  pub status_is : status ≡ status_with stale outcome.status
  pub only_checked : (stale ≡ []) ⊎ ((options.delivery ≡ Delivery.Check) × (outcome.status ≡ Status.Done))

-- What was read when memory ran out or the diagnostics failed: nothing if the tree or a name is refused; otherwise the first reads of the input
-- files, or nothing.
pub data AreFirstReads (files : Files) (options : Options) (inputs : List InputFile) : List Event → Type 0 where
  nothing : AreFirstReads files options inputs []
  of_accepted : (tree : TreeFacts) (done left : List Event) → IsAcceptedTree files (root_file options) tree → NamesAreTaken files options →
      done ++ left ≡ reads inputs → AreFirstReads files options inputs done

-- Why a run with this outcome stopped early, what was done until then and what was reported. (`before` is what is reported of the tree before
-- anything is read, and `told` what the device recorded at first.)
pub data Breaks (files : Files) (options : Options) (before : TreeFacts → List ℕ) (inputs : List InputFile) (outcome : Outcome) (told : Log) :
    Stop → List Event → List ℕ → Type 0 where
  -- There was not enough memory, before any text was delivered. Whole lines were reported.
  no_memory : (done : List Event) (front : List ℕ) → AreFirstReads files options inputs done → AreLines front → BeginsWith outcome.warned front →
      Breaks files options before inputs outcome told Stop.OutOfMemory done front
  -- The diagnostics failed. Whole lines were reported, and more were to come.
  in_diagnostics : (f : Failure) (done : List Event) (front : List ℕ) → f.action ≡ Report → f.name.now ≡ [] →
      AreFirstReads files options inputs done → AreLines front → Tells told (λ journal.
      GoesBeyond (diagnostics_of outcome ++ stale_lines options (stale_texts options (texts_of options outcome) journal)) front) →
      Breaks files options before inputs outcome told (Stop.Failed f) done front
  -- An input file could not be opened or read on.
  in_input : (f : Failure) (tree : TreeFacts) (file : InputFile) (done : List Event) (said_of_inputs : List ℕ) →
      IsAcceptedTree files (root_file options) tree → NamesAreTaken files options → (f.action ≡ Open) ⊎ (f.action ≡ Read) → f.name.now ≡ file.name →
      ReadsUpTo told options tree inputs f.action file done said_of_inputs →
      Breaks files options before inputs outcome told (Stop.Failed f) done (before tree ++ said_of_inputs)
  -- A text could not be delivered. All diagnostics were reported, and all earlier steps were done.
  in_delivery : (f : Failure) (events done : List Event) → AreReads files options inputs told events →
      Tells told (λ journal. (left : List Event) × (done ++ left ≡ delivers options (texts_of options outcome) journal) × StopsBefore left (Err f)) →
      Breaks files options before inputs outcome told (Stop.Failed f) (events ++ done) (diagnostics_of outcome)

-- Then come the event of the failure, the removal of the temporary files, and the error line or its failure. The status is `Faulted`.
pub record Broken (files : Files) (options : Options) (before : TreeFacts → List ℕ) (inputs : List InputFile) (outcome : Outcome) (old new : Log)
    (status : Status) : Type 0 where
  pub stop : Stop
  pub done : List Event
  pub front : List ℕ
  pub report : Result (Unit {0}) Fault
  pub breaks : Breaks files options before inputs outcome (still_told old new) stop done front
  pub is_report : IsReport stop report
  pub log : Leads (done ++ event_of stop ++ clearing options stop ++ reported report) (front ++ said report (stop_line options stop)) old new
  pub status_is : status ≡ Status.Faulted

-- A run over these files and a device: they have an outcome, and the run completes it or stops early.
pub record Runs (files : Files) (options : Options) (old new : Log) (status : Status) : Type 0 where
  pub inputs : List InputFile
  pub are_inputs : AreInputs (still_told old new) options inputs
  pub outcome : Outcome
  pub is_outcome : IsOutcome files options (bytes_of inputs) outcome
  pub ends : Completes files options inputs outcome old new status ⊎ Broken files options (λ tree. lines_text tree.warnings) inputs outcome old new status

-- A run over the files of a folder; or a run that could not load them: this is reported, and nothing else is done. The file that could not be read
-- was next, and the folder failed at its path and nowhere else.
abbrev pub load_line : LoadFault → List ℕ
load_line fault = elim fault [ LoadFault.CannotRead name ↦ cannot_read_line name.items | LoadFault.Memory ↦ out_of_memory_line ]

pub data FolderRuns (options : Options) (folder folder_after : Option FolderState) (old new : Log) (status : Status) : Type 0 where
  loaded : (files : Files) → AreFilesOf (files_told folder_after) (string_bytes options.root) (root_file options) options.is_flat files → FolderLeads [] folder folder_after →
      Runs files options old new status → FolderRuns options folder folder_after old new status
  unloaded : (fault : LoadFault) → IsLoadFault (files_told folder_after) (string_bytes options.root) (root_file options) fault →
      FolderLeads (failed_load {A = Unit {0}} (string_bytes options.root) (Err fault)) folder folder_after → TriesToSay (load_line fault) old new →
      status ≡ Status.Faulted → FolderRuns options folder folder_after old new status
