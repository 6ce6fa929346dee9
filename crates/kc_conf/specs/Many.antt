-- Trusted: What a run for many configurations of one tree leaves, and that they do not change one another's files.
-- Our own. It ends in `RunsEach`, and in the law `EachLeavesItsPart` of configurations with separate files.
use Rattle.std.specs.{List.list_any, Prelude.{◌≡◌, ◌≢◌, ◌⊎◌, ℕ, suc, ◌<◌, Bool, true, false, not, ◌||◌, List, [], ◌∷◌, ◌++◌, None, Some, map, string_bytes, bytes_eq, is_ok}}
use Rattle.kc_language.specs.{Expansion.{AreOpened, Files, Refused}, Symbols.{TreeFacts}, Statements.{out_of_memory_line}}
use Rattle.kc_outcome.specs.{Outcome.{IsAcceptedTree, IsOutcome, IsRefusedTree, Options, Outcome, input_files, lines_text, refusal_line, reported, root_file}, declared.outcome.{Delivery.{Delivery}, Status.{Status}}}
use Rattle.kc_io.specs.{Delivery.{last_of, stale_texts, status_with, texts_of}, Inputs.{AreInputs, InputFile, bytes_of, still_told}, Log.{Journal, Leads, Log, Tells, TriesToSay, failed, held}, declared.device.{Action.Action, Fault.Fault}}
use Rattle.kc_options.specs.PartsOfOutcome.{wants_sources}
use Rattle.kc_conf.specs.{Faults.{Broken, Completes, IsRefusedName, refused_name_of}, declared.stop.Stop.Stop}

-- The tree's sources are kept if the options of any configuration want them.
abbrev pub KeepsFor : (ℕ → Options → Type 0) → Bool → Type 0
KeepsFor options keeps = (i : ℕ) (one : Options) → options i one → wants_sources one ≡ true → keeps ≡ true

-- ---- What one configuration leaves
-- The part of a configuration is what its own run leaves after the tree's warnings. If its own run refuses a name, it does not report these warnings.
-- Then the part is all that it leaves.
abbrev pub IsPart : Files → TreeFacts → Options → List (List ℕ) → Outcome → Type 0
IsPart files tree options all part = (opened : List (List ℕ)) × AreOpened files (root_file options) opened
    × IsOutcome files options all (reported (elim (refused_name_of options opened tree) [ None ↦ lines_text tree.warnings | _ ↦ [] ]) part)

-- A configuration of an accepted tree leaves one part, for any other configurations and any order: only its own options and input files determine it.
abbrev pub ExactlyOnePart : Type 0
ExactlyOnePart = (files : Files) (tree : TreeFacts) (options : Options) (all : List (List ℕ)) → IsAcceptedTree files (root_file options) tree →
    (part : Outcome) × IsPart files tree options all part × ((other : Outcome) → IsPart files tree options all other → part ≡ other)

-- What its own run leaves is the tree's warnings followed by its part; if a name is refused, only its part.
abbrev pub PartsAreOfRuns : Type 0
PartsAreOfRuns = (files : Files) (tree : TreeFacts) (options : Options) (all : List (List ℕ)) (outcome : Outcome) →
    IsAcceptedTree files (root_file options) tree → IsOutcome files options all outcome → (part : Outcome) × IsPart files tree options all part
    × ((outcome ≡ reported (lines_text tree.warnings) part) ⊎ ((name : List ℕ) × IsRefusedName files options name × (outcome ≡ part)))

-- ---- One turn
-- A run for one configuration is complete; or it stopped early and reports why. That ends all runs if memory ran out or the diagnostics failed.
abbrev pub ends_all : Stop → Bool
ends_all Stop.OutOfMemory = true
ends_all (Stop.Failed f) = elim f.action [ Action.Report ↦ true | _ ↦ elim f.fault [ Fault.Memory ↦ true | Fault.Refused ↦ false ] ]

pub data EndsTurn (files : Files) (options : Options) (inputs : List InputFile) (part : Outcome) (old new : Log) (status : Status) (is_over : Bool) :
    Type 0 where
  whole : Completes files options inputs part old new status → is_over ≡ false → EndsTurn files options inputs part old new status is_over
  broken : (b : Broken files options (λ tree. []) inputs part old new status) → is_over ≡ (ends_all b.stop || not (is_ok b.report)) →
      EndsTurn files options inputs part old new status is_over

-- It leaves its part for what its own input files hold when its turn comes.
pub record RunsTurn (files : Files) (tree : TreeFacts) (options : Options) (old new : Log) (status : Status) (is_over : Bool) : Type 0 where
  pub inputs : List InputFile
  pub are_inputs : AreInputs (still_told old new) options inputs
  pub part : Outcome
  pub is_part : IsPart files tree options (bytes_of inputs) part
  pub ends : EndsTurn files options inputs part old new status is_over

-- ---- All turns. The greater of two statuses
abbrev pub greater : Status → Status → Status
greater a = elim a [
  | Status.Done ↦ λ b. b
  | Status.Refused ↦ λ b. elim b [ Status.Done ↦ Status.Refused | b ↦ b ]
  | Status.Usage ↦ λ b. elim b [ Status.Faulted ↦ Status.Faulted | _ ↦ Status.Usage ]
  | Status.Faulted ↦ λ b. Status.Faulted
]

module _ (turn : Options → Log → Log → Status → Bool → Type 0) where
  -- A configuration with such options takes its turn (`turn` specifies it); or there was not enough memory for its options, which ends all turns.
  pub data TakesTurn (are_options : Options → Type 0) (old new : Log) (status : Status) (is_over : Bool) : Type 0 where
    runs : (options : Options) → are_options options → turn options old new status is_over → TakesTurn are_options old new status is_over
    no_options : TriesToSay out_of_memory_line old new → status ≡ Status.Faulted → is_over ≡ true → TakesTurn are_options old new status is_over

  -- The `left` configurations from number i on take their turns, up to one that ends all turns. The status is the greatest of theirs.
  pub data TakeTurns (options : ℕ → Options → Type 0) : ℕ → ℕ → Log → Log → Status → Type 0 where
    none : (i : ℕ) (log : Log) → TakeTurns options i 0 log log Status.Done
    next : (i left : ℕ) (old mid new : Log) (status others : Status) → TakesTurn (options i) old mid status false →
        TakeTurns options (suc i) left mid new others → TakeTurns options i (suc left) old new (greater status others)
    last : (i left : ℕ) (old new : Log) (status : Status) → TakesTurn (options i) old new status true →
        TakeTurns options i (suc left) old new status

-- all options name this root file; the diagnostics failed
abbrev pub AreRootedAt : List ℕ → (ℕ → Options → Type 0) → Type 0
AreRootedAt root options = (i : ℕ) (o : Options) → options i o → root_file o ≡ root

abbrev pub CannotSay : Log → Log → Type 0
CannotSay old new = (fault : Fault) × Leads (failed Action.Report [] fault) [] old new

-- No configuration takes its turn: the tree is refused and this is reported, or the diagnostics (for it or for its warnings) or memory failed.
module _ (files : Files) (root : List ℕ) (old new : Log) (status : Status) where
  pub data StopsAtTree : Type 0 where
    refused_tree : (r : Refused) → IsRefusedTree files root r → Leads [] (refusal_line r) old new → status ≡ Status.Refused → StopsAtTree
    unsaid_refusal : (r : Refused) → IsRefusedTree files root r → CannotSay old new → status ≡ Status.Faulted → StopsAtTree
    unsaid_warnings : (tree : TreeFacts) → IsAcceptedTree files root tree → lines_text tree.warnings ≢ [] → CannotSay old new →
        status ≡ Status.Faulted → StopsAtTree
    no_memory : TriesToSay out_of_memory_line old new → status ≡ Status.Faulted → StopsAtTree

-- A run for `count` configurations, where `turn` specifies the turn of one over the tree. It ends at the tree; or the tree is accepted, its warnings are
-- reported once, and then the configurations take their turns.
pub data RunsAll (turn : TreeFacts → Options → Log → Log → Status → Bool → Type 0) (files : Files) (root : List ℕ) (options : ℕ → Options → Type 0) (count : ℕ)
    (old new : Log) (status : Status) : Type 0 where
  stops : StopsAtTree files root old new status → RunsAll turn files root options count old new status
  turns : (tree : TreeFacts) (mid : Log) → IsAcceptedTree files root tree → Leads [] (lines_text tree.warnings) old mid →
      TakeTurns (turn tree) options 0 count mid new status → RunsAll turn files root options count old new status

abbrev pub RunsEach : Files → List ℕ → (ℕ → Options → Type 0) → ℕ → Log → Log → Status → Type 0
RunsEach files root options count old new status = RunsAll (RunsTurn files) files root options count old new status

-- ---- Configurations with separate files
-- the files that a run with these options writes, or compares with --check; those that it writes; and whether a name is one of these
abbrev pub output_files : Options → List (List ℕ)
output_files options = map (λ wanted. string_bytes wanted.file) options.outputs.items

abbrev pub written_files : Options → List (List ℕ)
written_files options = elim options.delivery [ Delivery.Check ↦ [] | _ ↦ output_files options ]

abbrev pub is_among : List ℕ → List (List ℕ) → Bool
is_among name = list_any (bytes_eq name)

-- No file that one of the `count` configurations writes is an input or an output of another one.
abbrev pub AreSeparate : (ℕ → Options → Type 0) → ℕ → Type 0
AreSeparate options count = (i j : ℕ) (one other : Options) (name : List ℕ) →
    i < count → j < count → i ≢ j → options i one → options j other →
    is_among name (written_files one) ≡ true → (is_among name (input_files other) ≡ false) × (is_among name (output_files other) ≡ false)

-- The files that the options name hold the same at both times.
abbrev pub HoldAlike : Options → Log → Log → Type 0
HoldAlike options earlier later = (name : List ℕ) → (is_among name (input_files options) || is_among name (output_files options)) ≡ true →
    Tells earlier (λ a. Tells later (λ b. held b name ≡ held a name))

-- The turn of a configuration among others. Its files held the same when its turn came and `before` all turns, and hold the same after its turn and
-- `after` all. It leaves its part for what its own input files held before all. If it is complete, each file that it writes holds its text; with
-- --check the text was compared with what the file held before all.
pub record RunsAmong (files : Files) (tree : TreeFacts) (before after : Journal) (options : Options) (old new : Log) (status : Status) (is_over : Bool) :
    Type 0 where
  pub turn : RunsTurn files tree options old new status is_over
  pub alike : HoldAlike options (Some before) old × HoldAlike options new (Some after)
  pub own_inputs : AreInputs (Some before) options turn.inputs
  pub if_whole : Completes files options turn.inputs turn.part old new status → ((name : List ℕ) → is_among name (written_files options) ≡ true →
      held after name ≡ last_of name (texts_of options turn.part) (held before name))
      × (status ≡ status_with (stale_texts options (texts_of options turn.part) before) turn.part.status)

-- A run for `count` configurations. `before` and `after` are what the files held at these times. It ends at the tree, and changes no file; or the
-- configurations take their turns, none of which changes what another one reads or leaves, and a file that none of them writes stays the same.
pub data LeavesEach (files : Files) (root : List ℕ) (options : ℕ → Options → Type 0) (count : ℕ) (before after : Journal) (status : Status) :
    Type 0 where
  stops : StopsAtTree files root (Some before) (Some after) status → ((name : List ℕ) → held after name ≡ held before name) →
      LeavesEach files root options count before after status
  turns : (tree : TreeFacts) (mid : Log) → IsAcceptedTree files root tree → Leads [] (lines_text tree.warnings) (Some before) mid →
      TakeTurns (RunsAmong files tree before after) options 0 count mid (Some after) status → ((name : List ℕ) →
      ((i : ℕ) (one : Options) → i < count → options i one → is_among name (written_files one) ≡ false) → held after name ≡ held before name) →
      LeavesEach files root options count before after status

-- If none of them writes a file of another one, a run for all of them, with a device that records, leaves what each one leaves for the files before
-- the run.
abbrev pub EachLeavesItsPart : (ℕ → Options → Type 0) → ℕ → Type 0
EachLeavesItsPart options count = (files : Files) (root : List ℕ) (before after : Journal) (status : Status) → AreSeparate options count →
    RunsEach files root options count (Some before) (Some after) status → LeavesEach files root options count before after status
