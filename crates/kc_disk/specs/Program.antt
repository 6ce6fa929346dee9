-- Trusted: What the program does with its arguments: a run, runs for many configurations, or a usage error; and the exit status (our own).
-- `folder` and `folder_after` are the records of the folder of the Kconfig files before and after a run; `old` and `new` are the logs of the device.
use Rattle.std.specs.{Prelude.{◌≡◌, ◌≢◌, ◌⊎◌, ℕ, Bool, List, [], ◌∷◌, ◌++◌, true, if◌then◌else◌, Option, None, Some, Result, Ok, Err, String, codes, drop, false, is_some, length, map, slice_index_or, string_bytes}, Str.IsUtf8, IoError.error_kind, Vec.Iter.into_iter_items, declared.{alloc.Global.Global, io.{Error.Error, ErrorKind.TheVariants.OutOfMemory}, vec.IntoIter.IntoIter}}
use Rattle.clap.specs.Words.{fault_of, takes}
use Rattle.kc_language.specs.{Expansion.{Files}, Statements.{cannot_read_line, out_of_memory_line}}
use Rattle.kc_outcome.specs.{Outcome.{Options, file_for}, declared.outcome.{Output.{Output}, Status.{Status, TheVariants.{Done, Refused, Usage, Faulted}}}}
use Rattle.kc_io.specs.Log.{Journal, Log, TriesToSay, held}
use Rattle.kc_language.specs.Lines.{is_whole_lines}
use Rattle.kc_load.specs.{Folder.{AnswersAs, AreFilesOf, FolderState, IsLoadFault, Leads as FolderLeads, failed_load, files_told}, declared.fault.LoadFault.LoadFault}
use Rattle.kc_words.specs.{CommandLine.{AreApart, AreOptionsFor, IsClash, IsRefused, IsRequestOf, arguments_of, kconf_app, listed, refusal_of, rows_for, with_hint}, declared.{each.Each.Each, how.{EachQuestion.EachQuestion, HowQuestion.HowQuestion}, options.Request.{Request, TheVariants.{Dead, How, HowEach, One, Each as Many}}, usage.UsageError.{UsageError, TheVariants.{Bad, Memory}}}}
use Rattle.kc_conf.specs.{Dead.FolderListsDead, Faults.{FolderRuns, load_line}, How.{FolderHowRuns, HowRunsEach}, Many.{LeavesEach, RunsEach}, declared.reply.Asked.Asked}
use Rattle.kc_disk.specs.declared.arguments.Arguments.{Arguments, TheVariants.{Given, Unread}}

-- The exit status.
abbrev pub exit_status : Status → ℕ
exit_status Done = 0
exit_status Refused = 1
exit_status Usage = 2
exit_status Faulted = 3

-- ---- Usage errors
-- The status if the arguments request no run. Help and the version go to standard output. If standard output does not take them, the status is
-- `Faulted`.
abbrev pub EndsUsage : UsageError → Status → Type 0
EndsUsage (Bad text) status = status ≡ Usage
EndsUsage Memory status = status ≡ Faulted
EndsUsage _ status = (status ≡ Done) ⊎ (status ≡ Faulted)

-- A text is written to the diagnostics as whole lines, unless they fail. Errors are reported in this way; help and the version are not diagnostics.
abbrev pub SaysText : List ℕ → Log → Log → Type 0
SaysText text old new = TriesToSay (text ++ (if is_whole_lines text then [] else codes "\n")) old new

abbrev pub SaysUsage : UsageError → Log → Log → Type 0
SaysUsage (Bad text) old new = SaysText (string_bytes text) old new
SaysUsage Memory old new = SaysText out_of_memory_line old new
SaysUsage _ old new = new ≡ old

-- ---- Many configurations
-- The configurations in the list, if there is one. All configurations: those in the arguments, then those in the list.
abbrev pub AreListed : Option FolderState → Option (String Global) → List (List ℕ) → Type 0
AreListed folder None names = names ≡ []
AreListed folder (Some file) names =
    (bytes : List ℕ) × AnswersAs (files_told folder) (string_bytes file) (Some bytes) × IsUtf8 bytes × (names ≡ listed bytes)

pub record AreNames (each : Each) (folder : Option FolderState) (names : List (List ℕ)) : Type 0 where
  pub more : List (List ℕ)
  pub listed_are : AreListed folder each.list more
  pub all : names ≡ map string_bytes each.configurations.items ++ more

-- The options of the i-th configuration.
abbrev pub GivesOptions : Each → List (List ℕ) → ℕ → Options → Type 0
GivesOptions each names i options = AreOptionsFor each (slice_index_or names i []) options

-- ---- Input files that include others
-- With --include, input files are read at once and split into pieces. A run reads these in place of the input files: the first piece is that of the
-- `.config`, and the others replace the fragments. All other options stay. The content of the pieces is not recorded.
abbrev pub IsPieced : Options → Options → Type 0
IsPieced options pieced = pieced ≡ record options { fragments = pieced.fragments }

abbrev pub GivesPieced : Each → List (List ℕ) → ℕ → Options → Type 0
GivesPieced each names i pieced = (options : Options) × GivesOptions each names i options × IsPieced options pieced

-- There was not enough memory for the pieces; or it is a run over them.
pub data RunsIncluding (options : Options) (folder folder_after : Option FolderState) (status : Status) : Type 0 where
  no_pieces : folder_after ≡ folder → status ≡ Faulted → RunsIncluding options folder folder_after status
  ran_pieces : (pieced : Options) → IsPieced options pieced → FolderRuns pieced folder folder_after None None status →
      RunsIncluding options folder folder_after status

-- The turns of many configurations: runs, or answers to what is asked of each.
abbrev pub TakesTurns : Option Asked → Files → List ℕ → (ℕ → Options → Type 0) → ℕ → Log → Log → Status → Type 0
TakesTurns None files root options count old new status = RunsEach files root options count old new status
TakesTurns (Some asked) files root options count old new status = HowRunsEach asked files root options count old new status

pub data TurnsIncluding (asked : Option Asked) (files : Files) (each : Each) (names : List (List ℕ)) (status : Status) : Type 0 where
  no_pieces_for_each : status ≡ Faulted → TurnsIncluding asked files each names status
  ran_each : TakesTurns asked files (string_bytes each.options.kconfig) (GivesPieced each names) (length names) None None status →
      TurnsIncluding asked files each names status

-- The list cannot be read: the folder failed at its path, the file does not exist, or it is not UTF-8.
pub data HasNoList (list : List ℕ) (folder folder_after : Option FolderState) : Type 0 where
  failing : FolderLeads (list ∷ []) folder folder_after → HasNoList list folder folder_after
  absent : FolderLeads [] folder folder_after → AnswersAs (files_told folder_after) list None → HasNoList list folder folder_after
  no_text : (bytes : List ℕ) → FolderLeads [] folder folder_after → AnswersAs (files_told folder_after) list (Some bytes) → (IsUtf8 bytes → ⊥) →
      HasNoList list folder folder_after

-- The error line for that, or for being out of memory.
pub data IsUnlisted (each : Each) (folder folder_after : Option FolderState) : List ℕ → Type 0 where
  unreadable : (file : String Global) → each.list ≡ Some file → HasNoList (string_bytes file) folder folder_after →
      IsUnlisted each folder folder_after (cannot_read_line (string_bytes file))
  no_memory : (failed : List (List ℕ)) → FolderLeads failed folder folder_after → IsUnlisted each folder folder_after out_of_memory_line

-- The tree cannot be loaded. The folder failed at the path of the file that could not be read, and nowhere else.
pub record IsUnloaded (each : Each) (fault : LoadFault) (folder folder_after : Option FolderState) : Type 0 where
  pub cause : IsLoadFault (files_told folder_after) (string_bytes each.options.root) (string_bytes each.options.kconfig) fault
  pub leads : FolderLeads (failed_load {A = Unit {0}} (string_bytes each.options.root) (Err fault)) folder folder_after

-- The configurations have these names and share no file, and these are the files of the tree. Answers go to standard output, so they share none.
pub record AreReady (asked : Option Asked) (each : Each) (folder folder_after : Option FolderState) (names : List (List ℕ)) (files : Files) : Type 0 where
  pub names_are : AreNames each folder_after names
  pub apart : asked ≡ None → AreApart each names
  pub files_are : AreFilesOf (files_told folder_after) (string_bytes each.options.root) (string_bytes each.options.kconfig) each.options.is_flat files
  pub leads : FolderLeads [] folder folder_after

-- Turns for many configurations. If the list cannot be read, the configurations share files, or the tree cannot be loaded, that is reported and
-- nothing else is done.
module _ (asked : Option Asked) (each : Each) (folder folder_after : Option FolderState) (old new : Log) (status : Status) where
  pub data FolderTurns : Type 0 where
    unlisted : (line : List ℕ) → IsUnlisted each folder folder_after line → TriesToSay line old new → status ≡ Faulted → FolderTurns
    clashing : (names : List (List ℕ)) (usage : UsageError) → asked ≡ None → AreNames each folder_after names → FolderLeads [] folder folder_after →
        IsClash each names usage → EndsUsage usage status × SaysUsage usage old new → FolderTurns
    unloaded : (names : List (List ℕ)) (fault : LoadFault) → AreNames each folder_after names → (asked ≡ None → AreApart each names) →
        IsUnloaded each fault folder folder_after → TriesToSay (load_line fault) old new → status ≡ Faulted → FolderTurns
    including : (names : List (List ℕ)) (files : Files) → is_some each.options.include ≡ true → AreReady asked each folder folder_after names files →
        TurnsIncluding asked files each names status → FolderTurns
    loaded : (names : List (List ℕ)) (files : Files) → is_some each.options.include ≡ false → AreReady asked each folder folder_after names files →
        TakesTurns asked files (string_bytes each.options.kconfig) (GivesOptions each names) (length names) old new status → FolderTurns

-- A run for each of them.
abbrev pub FolderRunsEach : Each → Option FolderState → Option FolderState → Log → Log → Status → Type 0
FolderRunsEach each folder folder_after old new status = FolderTurns None each folder folder_after old new status

-- What such a run leaves in the files. It ends before the first configuration and changes no file; or it leaves what each configuration leaves for
-- the files as they were before the run. (The content of pieces is not recorded, so nothing is specified for a run with --include.)
pub data FolderLeavesEach (each : Each) (folder_after : Option FolderState) (before after : Journal) (status : Status) : Type 0 where
  ends_before : ((name : List ℕ) → held after name ≡ held before name) → FolderLeavesEach each folder_after before after status
  includes : is_some each.options.include ≡ true → FolderLeavesEach each folder_after before after status
  leaves : (names : List (List ℕ)) (files : Files) → AreNames each folder_after names →
      AreFilesOf (files_told folder_after) (string_bytes each.options.root) (string_bytes each.options.kconfig) each.options.is_flat files →
      LeavesEach files (string_bytes each.options.kconfig) (GivesOptions each names) (length names) before after status →
      FolderLeavesEach each folder_after before after status

-- The law that each run for many configurations does so, with a device that records.
abbrev pub NamedStandApart : Type 0
NamedStandApart = (each : Each) (folder folder_after : Option FolderState) (before after : Journal) (status : Status) →
    FolderRunsEach each folder folder_after (Some before) (Some after) status → FolderLeavesEach each folder_after before after status

-- ---- The program
-- The arguments request this: clap accepts them, they do not exclude each other, and the options are theirs.
pub record GiveRequest (arguments : List (String Global)) (request : Request) : Type 0 where
  pub faultless : fault_of kconf_app (arguments_of arguments) ≡ []
  pub fields : IsRequestOf (rows_for arguments) request

-- The arguments request no run, for this reason. If clap accepts them and there is no error of ours, the only reason is out of memory.
abbrev pub GiveNone : List (String Global) → UsageError → Type 0
GiveNone arguments usage = IsRefused (fault_of kconf_app (arguments_of arguments)) (rows_for arguments) usage
    × (takes kconf_app (arguments_of arguments) ≡ true → refusal_of (rows_for arguments) ≡ None → usage ≡ Memory)

-- A run for one configuration, with or without included files.
abbrev pub EndsOne : Bool → Options → Option FolderState → Option FolderState → Log → Log → Status → Type 0
EndsOne true options folder folder_after old new status = RunsIncluding options folder folder_after status
EndsOne false options folder folder_after old new status = FolderRuns options folder folder_after old new status

-- What must be set so that a symbol has a value: for the value and the number of tries of the question. The same for many configurations.
pub record IsAskedBy (value : String Global) (steps : ℕ) (asked : Asked) : Type 0 where
  pub value_is : asked.value.now ≡ string_bytes value
  pub steps_are : asked.steps ≡ steps

abbrev pub FolderAsks : HowQuestion → Option FolderState → Option FolderState → Log → Log → Status → Type 0
FolderAsks how folder folder_after old new status =
    (asked : Asked) × IsAskedBy how.value how.steps asked × FolderHowRuns how.options asked folder folder_after old new status

abbrev pub FolderAsksEach : EachQuestion → Option FolderState → Option FolderState → Log → Log → Status → Type 0
FolderAsksEach how folder folder_after old new status =
    (asked : Asked) × IsAskedBy how.value how.steps asked × FolderTurns (Some asked) how.each folder folder_after old new status

-- The same with or without included files. There was not enough memory for the pieces; or it is asked over them.
pub data AsksIncluding (how : HowQuestion) (folder folder_after : Option FolderState) (status : Status) : Type 0 where
  no_pieces_to_ask : folder_after ≡ folder → status ≡ Faulted → AsksIncluding how folder folder_after status
  asked_pieces : (pieced : Options) → IsPieced how.options pieced → FolderAsks (record how { options = pieced }) folder folder_after None None status →
      AsksIncluding how folder folder_after status

abbrev pub EndsHow : Bool → HowQuestion → Option FolderState → Option FolderState → Log → Log → Status → Type 0
EndsHow true how folder folder_after old new status = AsksIncluding how folder folder_after status
EndsHow false how folder folder_after old new status = FolderAsks how folder folder_after old new status

-- A run for one configuration or for many, a list of dead prompts, or what must be set in one configuration or in many.
abbrev pub EndsAsked : Request → Option FolderState → Option FolderState → Log → Log → Status → Type 0
EndsAsked (One options) folder folder_after old new status = EndsOne (is_some options.include) options folder folder_after old new status
EndsAsked (Many each) folder folder_after old new status = FolderRunsEach each folder folder_after old new status
EndsAsked (Dead dead) folder folder_after old new status =
    FolderListsDead dead.options (string_bytes dead.file) folder folder_after old new status
EndsAsked (How how) folder folder_after old new status = EndsHow (is_some how.options.include) how folder folder_after old new status
EndsAsked (HowEach how) folder folder_after old new status = FolderAsksEach how folder folder_after old new status

-- What is done with the arguments: the requested run; or the error is reported, and nothing else is done.
module _ (arguments : List (String Global)) (folder folder_after : Option FolderState) (old new : Log) (status : Status) where
  pub data AnswersArguments : Type 0 where
    runs : (r : Request) → GiveRequest arguments r → EndsAsked r folder folder_after old new status → AnswersArguments
    none : (usage : UsageError) → GiveNone arguments usage → EndsUsage usage status → SaysUsage usage old new → folder_after ≡ folder →
        AnswersArguments

-- The arguments of a process, without the first, the program's name. They are unread if one is not UTF-8, or memory ran out.
abbrev pub AreArgumentsOf : Result (IntoIter (String Global) Global) Error → Arguments → Type 0
AreArgumentsOf (Ok words) (Given arguments) = arguments.items ≡ drop 1 (into_iter_items words)
AreArgumentsOf (Ok words) (Unread usage) = usage ≡ Memory
AreArgumentsOf (Err error) (Unread Memory) = Unit {0}
AreArgumentsOf (Err error) (Unread (Bad text)) =
    (error_kind error ≢ OutOfMemory) × (string_bytes text ≡ with_hint (codes "error: invalid UTF-8 was detected in one or more arguments"))
AreArgumentsOf (Err error) _ = ⊥

-- The arguments again; or they request to write the full `.config` where it is read, and that is a pipe, a terminal or the like.
abbrev pub needs_out_text : List ℕ
needs_out_text = with_hint (codes "error: the argument '--config <FILE>' needs '--out <FILE>' where FILE is no regular file")

abbrev pub IsNeedsOut : UsageError → Type 0
IsNeedsOut (Bad text) = string_bytes text ≡ needs_out_text
IsNeedsOut usage = usage ≡ Memory

abbrev pub WritesWhereItReads : List (String Global) → Type 0
WritesWhereItReads arguments = (options : Options) × GiveRequest arguments (One options) × (file_for options Output.Config ≡ Some (string_bytes options.config))

abbrev pub AreChecked : Arguments → Arguments → Type 0
AreChecked (Given arguments) (Given checked) = checked ≡ arguments
AreChecked (Given arguments) (Unread usage) = WritesWhereItReads arguments.items × IsNeedsOut usage
AreChecked (Unread usage) checked = checked ≡ Unread usage

-- A run of the program; and the same on a disk, which records nothing.
abbrev pub KconfEnds : Arguments → Option FolderState → Option FolderState → Log → Log → Status → Type 0
KconfEnds (Given arguments) folder folder_after old new status = AnswersArguments arguments.items folder folder_after old new status
KconfEnds (Unread usage) folder folder_after old new status = EndsUsage usage status × SaysUsage usage old new × (folder_after ≡ folder)

abbrev pub KconfEndsOnDisk : Arguments → Status → Type 0
KconfEndsOnDisk arguments status = KconfEnds arguments None None None None status
