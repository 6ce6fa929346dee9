-- Trusted: A run that tells what must be set so that a symbol has a value.
-- Our own. It reads the tree and the input files like any run, and ends in `HowRuns`; for many configurations, in `HowRunsEach`; and for the tree of a
-- folder, in `FolderHowRuns`.
use Rattle.std.specs.{List.flat_map, Prelude.{All, Bool, Err, List, None, Option, Some, [], codes, if◌then◌else◌, map, string_bytes, true, ℕ, ◌++◌, ◌||◌, ◌∷◌, ◌≡◌, ◌⊎◌}}
use Rattle.kc_language.specs.{ConfigFile.{Notation, ReadResult, StreamLocation, UserInput}, Expansion.{AreOpened, Files, Refused}, Statements.{error_at, error_line, run_error_text}, Symbols.{SymbolFacts, TreeFacts, same_type}, Texts.{IsSolutionFor, Solution, has_prompt}, Values.{GivenText, GivenTruth, GivenValue, facts, type_in}, declared.{diagnostics.RunError.{RunError}, expressions.{SymId.SymId, SymbolType.TheVariants.{Undefined}, Tri.TheVariants.{M}}}}
use Rattle.kc_outcome.specs.{Explanations.{Fact, asked_symbol}, Outcome.{IsAcceptedTree, IsRefusedTree, Options, Outcome, first_line, lead, lines_text, near_text, read_of, refusal_line, refused_outcome, reported, root_file, strictly, unknown_name, unreadable_name}, declared.outcome.Status.{Status}}
use Rattle.kc_how.specs.{FixTexts.{fix_text, impossible_line, loses_nothing, no_value_text, not_found_text, reason_line}, How.{Goal, IsFix, IsOutOfReach, wanted_value, with_fragment}, declared.answer.Miss.{Miss}}
use Rattle.kc_possible.specs.Possible.{IsOff}
use Rattle.kc_explain.specs.{Fixed.{AreFixedOf, fixed_lines}, RangeLines.range_lines}
use Rattle.kc_io.specs.{Inputs.{AreInputs, InputFile, bytes_of, still_told}, Log.{Log, TriesToSay}}
use Rattle.kc_load.specs.{Folder.{AreFilesOf, FolderState, IsLoadFault, Leads as FolderLeads, failed_load, files_told}, declared.fault.LoadFault.LoadFault}
use Rattle.kc_conf.specs.{Faults.{Broken, Completes, load_line, refused_name_of}, Many.{EndsTurn, RunsAll}, declared.reply.Asked.{Asked}}

-- ---- What is asked
-- The symbol that is asked about: the one of the first name to be explained.
abbrev pub asked_first : Options → TreeFacts → Option SymId
asked_first options tree = elim options.explain.items [ [] ↦ None | name ∷ _ ↦ asked_symbol tree options.prefix.prefix (string_bytes name) ]

-- With --each, a comment line before each answer names the configuration.
abbrev pub heading : Options → List ℕ
heading options = if options.names_config then codes "# " ++ (first_line (string_bytes options.config) ++ codes ":\n") else []

-- This text is told, for each output.
abbrev pub told : Options → List ℕ → Outcome
told options text = record { texts = map (λ wanted. heading options ++ text) options.outputs.items; warned = []; refusal = []; status = Status.Done }

-- ---- Why no input reaches the goal
-- A symbol that is off under every input, and facts about it that no line can change.
pub record IsReason (input : UserInput) (solution : Solution) (reason : SymId × List Fact) : Type 0 where
  pub off : IsOff solution.tree reason.0
  pub fixed : AreFixedOf input solution reason.0 reason.1

-- What no line can change: such facts about the symbol of the goal, and such symbols.
pub record Obstacles (input : UserInput) (solution : Solution) (goal : Goal) : Type 0 where
  pub facts : List Fact
  pub fixed : AreFixedOf input solution goal.symbol facts
  pub reasons : List (SymId × List Fact)
  pub off : All (IsReason input solution) reasons

-- A symbol that has a type and no prompt takes no value from a line.
abbrev pub prompt_of : List ℕ → Option SymbolFacts → List ℕ
prompt_of lead of = elim of [
  | None ↦ []
  | Some f ↦ if same_type f.symbol_type Undefined || has_prompt f.prompts then [] else lead ++ codes "no prompt" ++ codes "\n"
]

abbrev pub prompt_line : List ℕ → TreeFacts → SymId → List ℕ
prompt_line lead tree s = prompt_of lead (facts tree s)

-- Without a modules symbol no tristate is m.
abbrev pub modules_of : List ℕ → Option SymId → GivenValue → List ℕ
modules_of lead None (GivenTruth M) = lead ++ codes "no modules symbol" ++ codes "\n"
modules_of lead modules value = []

abbrev pub modules_line : List ℕ → TreeFacts → Goal → List ℕ
modules_line lead tree goal = modules_of lead tree.modules goal.value

-- The ranges that do not always allow the number.
abbrev pub goal_range_lines : Bool → TreeFacts → List ℕ → Goal → List ℕ
goal_range_lines is_raw tree lead goal = elim goal.value [ GivenText number ↦ range_lines is_raw tree lead goal.symbol number | _ ↦ [] ]

-- E25: each symbol has two blanks in front, and each fact as many as what it is about, and two more.
abbrev pub reason_lines : Notation → TreeFacts → SymId × List Fact → List ℕ
reason_lines notation tree reason =
    reason_line tree reason.0 ++ prompt_line (codes "    ") tree reason.0 ++ fixed_lines notation.is_raw tree (codes "    ") reason.1

abbrev pub impossible_text : Notation → TreeFacts → Goal → List Fact → List (SymId × List Fact) → List ℕ
impossible_text notation tree goal facts reasons =
    impossible_line tree notation goal ++ prompt_line (codes "  ") tree goal.symbol ++ modules_line (codes "  ") tree goal
    ++ goal_range_lines notation.is_raw tree (codes "  ") goal ++ fixed_lines notation.is_raw tree (codes "  ") facts ++ flat_map (reason_lines notation tree) reasons

module _ (options : Options) (asked : Asked) (tree : TreeFacts) where
  -- This symbol shall have this value: the one that the text asks for, for a symbol of its type.
  pub record IsGoal (goal : Goal) : Type 0 where
    pub symbol : asked_first options tree ≡ Some goal.symbol
    pub value : wanted_value options.prefix.is_raw (type_in (facts tree goal.symbol)) asked.value.now ≡ Some goal.value

  -- ---- The answer
  -- What is told about an input with this solution: the text of a fix, which under --strict loses no value of the user but those that it overrides; or why
  -- there is none. That none was found promises nothing.
  pub data IsToldOf (input : UserInput) (solution : Solution) (outcome : Outcome) : Type 0 where
    nothing_asked : asked_first options tree ≡ None → outcome ≡ told options [] → IsToldOf input solution outcome
    no_value : (s : SymId) → asked_first options tree ≡ Some s → wanted_value options.prefix.is_raw (type_in (facts tree s)) asked.value.now ≡ None →
        outcome ≡ refused_outcome (lead options ++ no_value_text tree options.prefix s asked.value.now) → IsToldOf input solution outcome
    fixed : (goal : Goal) (lines : List (List ℕ)) (after : Solution) → IsGoal goal → IsFix tree options.prefix input solution goal lines →
        IsSolutionFor tree (with_fragment tree options.prefix input lines).places after →
        (options.strict ≡ true → loses_nothing tree options.prefix input solution after lines ≡ true) →
        outcome ≡ told options (fix_text tree options.prefix input solution after lines goal) → IsToldOf input solution outcome
    impossible : (goal : Goal) (why : Obstacles input solution goal) → IsGoal goal → IsOutOfReach tree goal →
        outcome ≡ refused_outcome (lead options ++ impossible_text options.prefix tree goal why.facts why.reasons) → IsToldOf input solution outcome
    not_found : (goal : Goal) (miss : Miss) → IsGoal goal → outcome ≡ refused_outcome (lead options ++ not_found_text tree options.prefix goal asked.steps miss) →
        IsToldOf input solution outcome

  -- The outcome after the tree's warnings: a line that is too long is refused; otherwise it is told of the one solution.
  pub data IsToldOfReading (read : ReadResult) (outcome : Outcome) : Type 0 where
    long_line : (stop : StreamLocation) → read.stopped ≡ Some stop →
        outcome ≡ reported read.warned (refused_outcome (error_at stop.stream stop.number (run_error_text RunError.LineTooLong))) → IsToldOfReading read outcome
    whole : (solution : Solution) (answer : Outcome) → read.stopped ≡ None → IsSolutionFor tree read.input.places solution →
        IsToldOf read.input solution answer → outcome ≡ reported read.warned answer → IsToldOfReading read outcome

-- ---- The outcome
-- What such a run leaves without --strict-tree, as in the chapter Outcome.
pub data IsLenientHow (files : Files) (options : Options) (asked : Asked) (opened all : List (List ℕ)) (outcome : Outcome) : Type 0 where
  refused_tree : (r : Refused) → IsRefusedTree files (root_file options) r → outcome ≡ refused_outcome (refusal_line r) → IsLenientHow files options asked opened all outcome
  refused_name : (tree : TreeFacts) (name : List ℕ) → IsAcceptedTree files (root_file options) tree → unreadable_name options opened ≡ Some name →
      outcome ≡ refused_outcome (lead options ++ error_line (run_error_text (RunError.UnreadableName (first_line name)))) →
      IsLenientHow files options asked opened all outcome
  unknown_symbol : (tree : TreeFacts) (name : List ℕ) → IsAcceptedTree files (root_file options) tree → unreadable_name options opened ≡ None →
      unknown_name options tree ≡ Some name →
      outcome ≡ refused_outcome (lead options ++ error_line (run_error_text (RunError.UnknownName (first_line name) (near_text tree name)))) →
      IsLenientHow files options asked opened all outcome
  accepted_tree : (tree : TreeFacts) → IsAcceptedTree files (root_file options) tree → unreadable_name options opened ≡ None →
      unknown_name options tree ≡ None → (rest : Outcome) × IsToldOfReading options asked tree (read_of options tree all) rest
      × (outcome ≡ reported (lines_text tree.warnings) rest) → IsLenientHow files options asked opened all outcome

-- What such a run must leave, given the tree's files, the options, what is asked, and the bytes of the input files.
abbrev pub IsHowOutcome : Files → Options → Asked → List (List ℕ) → Outcome → Type 0
IsHowOutcome files options asked all outcome = (lenient : Outcome) × (opened : List (List ℕ)) × IsLenientHow files options asked opened all lenient
    × AreOpened files (root_file options) opened × (outcome ≡ strictly options lenient)

-- ---- The run
-- A run over these files and a device: it completes such an outcome, or stops early.
pub record HowRuns (files : Files) (options : Options) (asked : Asked) (old new : Log) (status : Status) : Type 0 where
  pub inputs : List InputFile
  pub are_inputs : AreInputs (still_told old new) options inputs
  pub outcome : Outcome
  pub is_outcome : IsHowOutcome files options asked (bytes_of inputs) outcome
  pub ends : Completes files options inputs outcome old new status ⊎ Broken files options (λ tree. lines_text tree.warnings) inputs outcome old new status

-- ---- Many configurations
-- The part of a configuration is what its own run leaves after the tree's warnings; or all that it leaves, if it refuses a name: as in the chapter Many.
abbrev pub IsHowPart : Files → TreeFacts → Options → Asked → List (List ℕ) → Outcome → Type 0
IsHowPart files tree options asked all part = (opened : List (List ℕ)) × AreOpened files (root_file options) opened
    × IsHowOutcome files options asked all (reported (elim (refused_name_of options opened tree) [ None ↦ lines_text tree.warnings | _ ↦ [] ]) part)

-- Its turn leaves its part for what its own input files hold when its turn comes.
pub record HowTurn (asked : Asked) (files : Files) (tree : TreeFacts) (options : Options) (old new : Log) (status : Status) (is_over : Bool) : Type 0 where
  pub inputs : List InputFile
  pub are_inputs : AreInputs (still_told old new) options inputs
  pub part : Outcome
  pub is_part : IsHowPart files tree options asked (bytes_of inputs) part
  pub ends : EndsTurn files options inputs part old new status is_over

-- A run that asks the same for `count` configurations. The tree is refused once, or its warnings are reported once; then each takes its turn.
abbrev pub HowRunsEach : Asked → Files → List ℕ → (ℕ → Options → Type 0) → ℕ → Log → Log → Status → Type 0
HowRunsEach asked files root options count old new status = RunsAll (HowTurn asked files) files root options count old new status

-- ---- A folder
-- A run over the files of a folder; or these could not be loaded, and nothing else is done.
pub data FolderHowRuns (options : Options) (asked : Asked) (folder folder_after : Option FolderState) (old new : Log) (status : Status) : Type 0 where
  loaded : (files : Files) → AreFilesOf (files_told folder_after) (string_bytes options.root) (root_file options) options.is_flat files → FolderLeads [] folder folder_after →
      HowRuns files options asked old new status → FolderHowRuns options asked folder folder_after old new status
  unloaded : (fault : LoadFault) → IsLoadFault (files_told folder_after) (string_bytes options.root) (root_file options) fault →
      FolderLeads (failed_load {A = Unit {0}} (string_bytes options.root) (Err fault)) folder folder_after → TriesToSay (load_line fault) old new →
      status ≡ Status.Faulted → FolderHowRuns options asked folder folder_after old new status
