-- Trusted: 16. Outcome: the texts, the diagnostics and the status of a run.
-- Our own. `IsOutcome` at the end is the rule.
use Rattle.std.specs.{List.{list_any}, Option.{option_map_or}, Prelude.{[], Bool, Err, List, None, Ok, Option, Some, codes, false, filter, find, flat_map, if◌then◌else◌, is_some, length, map, not, option_map, string_bytes, true, unwrap_or, ℕ, ◌&&◌, ◌++◌, ◌==◌, ◌||◌, ◌∷◌, ◌≡◌}}
use denote.Enum.Bare.{sameb}
use Rattle.kc_language.specs.{ConfigFile.{Notation, ReadResult, Stream, StreamLocation, UserInput, no_input, reading_of}, Expansion.{AreOpened, Files, Refused}, Expressions.{all_mentioned, same_name}, Needs.{IsAccepted, IsLoopText, loop_refused}, Files.{is_read_by_make, path_of, rule_text}, Statements.{cause_text, error_at, error_line, run_error_text}, Symbols.{IsTreeOf, TreeFacts, Warning, listed}, Text.{byte}, Texts.{IsSolutionFor, Solution, config_text, header_text, lost_at, lost_lines, minimal_text, new_text, solution_view, value_warnings, warnings}, Values.{name}, declared.{diagnostics.{RunError.{RunError}, Warning.TheVariants.{UserOutside}}, expressions.SymId.{SymId}}}
use Rattle.kc_outcome.specs.{Explanations.{asked_symbol, causes_lines, explanation_text, near_names, new_text_with_help, symbol_lines, text_of_lines}, contracts.outcome.Output.{the_type}, declared.outcome.{Options.{Options as AnyOptions}, Output.{Output}, Status.{Status}}}

-- The options, the root file, and the name that some diagnostics begin with under --each.
abbrev pub Options : Type 0
Options = AnyOptions Notation

abbrev pub root_file : Options → List ℕ
root_file options = string_bytes options.kconfig

abbrev pub lead : Options → List ℕ
lead options = if options.names_config then string_bytes options.config ++ codes ": " else []

-- The names of the input files (the `.config`, then the fragments), and their names in diagnostics.
abbrev pub input_files : Options → List (List ℕ)
input_files options = string_bytes options.config ∷ map string_bytes options.fragments.items

abbrev pub input_names : Options → List (List ℕ)
input_names options = string_bytes options.config ∷ map (λ name. lead options ++ string_bytes name) options.fragments.items

-- The file of the first output of this kind; whether there is one; and the file of the `.config`, which is the target in a dependency file.
abbrev pub file_for : Options → Output → Option (List ℕ)
file_for options kind = option_map (λ wanted. string_bytes wanted.file) (find (λ wanted. sameb the_type kind wanted.kind) options.outputs.items)

abbrev pub wants : Options → Output → Bool
wants options kind = is_some (file_for options kind)

abbrev pub target : Options → List ℕ
target options = unwrap_or (file_for options Output.Config) []

abbrev pub first_line : List ℕ → List ℕ
first_line [] = []
first_line (b ∷ rest) = if b == byte "\n" then [] else b ∷ first_line rest

-- the one error line of a refused tree, at its location if it has one
abbrev pub refusal_line : Refused → List ℕ
refusal_line r = elim r.location [ None ↦ error_line (cause_text r.cause) | Some place ↦ error_at place.0 place.1 (cause_text r.cause) ]

-- ---- Prerequisites
-- Each prerequisite once (the files that the tree opens, and the input files, except a `.config` that is the target); the first that make cannot read.
abbrev pub names_listed : Options → List (List ℕ) → List (List ℕ)
names_listed options opened =
    let inputs = if same_name (string_bytes options.config) (target options) then map string_bytes options.fragments.items else input_files options in
    all_mentioned [] (map (path_of (string_bytes options.root)) opened ++ inputs)

abbrev pub unreadable_name : Options → List (List ℕ) → Option (List ℕ)
unreadable_name options opened =
    if wants options Output.DependencyFile then find (λ name. not (is_read_by_make name)) (target options ∷ names_listed options opened) else None

-- ---- The tree, the input files and the solution
-- Why the tree is not accepted: it is refused, or its symbols depend on one another in a loop.
pub data IsRefusedTree (files : Files) (root : List ℕ) (r : Refused) : Type 0 where
  no_tree : IsTreeOf files root (Err r) → IsRefusedTree files root r
  looped : (tree : TreeFacts) (text : List ℕ) → IsTreeOf files root (Ok tree) → IsLoopText tree text → r ≡ loop_refused text → IsRefusedTree files root r

-- The tree is accepted: it is not refused, and no symbol of it is in a dependency loop.
pub record IsAcceptedTree (files : Files) (root : List ℕ) (tree : TreeFacts) : Type 0 where
  pub built : IsTreeOf files root (Ok tree)
  pub accepted : IsAccepted tree

-- the input files of these names and bytes; what reading them gives, one after another (lines of values are kept for lost values and explanations)
abbrev pub streams : List (List ℕ) → List (List ℕ) → List Stream
streams (name ∷ names) (bytes ∷ all) = record { name = name; bytes = bytes } ∷ streams names all
streams _ _ = []

abbrev pub fresh_input : Options → TreeFacts → UserInput
fresh_input options tree = record (no_input (options.warn_lost || wants options Output.Explanation) tree) {
  gone = if wants options Output.GoneLines then Some ([], []) else None;
  asks_unset = options.warn_lost;
  lead = lead options;
}

abbrev pub read_of : Options → TreeFacts → List (List ℕ) → ReadResult
read_of options tree all = reading_of tree options.prefix (fresh_input options tree) (streams (input_names options) all)

-- the warnings about lost values (K14), if they are requested; whether a warning is about a user value outside its range (K12)
abbrev pub lost_warnings : Options → UserInput → Solution → List (List ℕ)
lost_warnings options input solution = if options.warn_lost then lost_lines options.prefix.is_raw input.lines solution else []

abbrev pub is_outside : Warning → Bool
is_outside warning = elim warning [ UserOutside name value low high ↦ true | _ ↦ false ]

-- --strict refuses a line that was not taken as written (it has a warning, or it changed what another gave), a value outside its range, and a lost one.
abbrev pub refuses_input : Options → UserInput → Solution → Bool
refuses_input options input solution = options.strict
    && not (input.all_taken && (not (list_any is_outside (value_warnings solution)) && (length (lost_warnings options input solution) == 0)))

-- ---- The outcome
-- The texts that a run must leave (one for each output, in this order, or none), its warnings, the error line of a refusal, and the status.
pub record Outcome : Type 0 where
  pub texts : List (List ℕ)
  pub warned : List ℕ
  pub refusal : List ℕ
  pub status : Status

-- an outcome with these warnings before its own; a refusal, which writes no file; and the refusal of an outcome for its warnings, which it keeps
abbrev pub reported : List ℕ → Outcome → Outcome
reported text outcome = record outcome { warned = text ++ outcome.warned }

abbrev pub refused_outcome : List ℕ → Outcome
refused_outcome line = record { texts = []; warned = []; refusal = line; status = Status.Refused }

abbrev pub refused_if : Options → Bool → Outcome → Outcome
refused_if options refuses outcome =
    if refuses then record (refused_outcome (lead options ++ error_line (run_error_text RunError.WarningsRefused))) { warned = outcome.warned } else outcome

-- each line with its line feed; the text is not empty
abbrev pub lines_text : List (List ℕ) → List ℕ
lines_text lines = flat_map (λ line. line ++ codes "\n") lines

abbrev pub is_not_empty : List ℕ → Bool
is_not_empty text = elim text [ [] ↦ false | _ ↦ true ]

-- The symbols to explain: the first name that the tree does not mention; the names that differ from it by one letter; the explanations.
abbrev pub unknown_name : Options → TreeFacts → Option (List ℕ)
unknown_name options tree = find (λ asked. not (is_some (asked_symbol tree options.prefix.prefix asked))) (map string_bytes options.explain.items)

abbrev pub near_text : TreeFacts → List ℕ → List ℕ
near_text tree asked = elim (near_names tree asked) [ [] ↦ [] | called ∷ more ↦ codes "; one letter differs: " ++ called ++ flat_map (λ name. codes ", " ++ name) more ]

-- The last line of explanations: how to ask what must be set, for the first of these names.
abbrev pub question_text : List ℕ → List (List ℕ) → List ℕ
question_text front names = elim names [ [] ↦ [] | called ∷ more ↦ front ++ codes "to see what to set: --how " ++ called ++ codes "=VALUE\n" ]

abbrev pub explanations : Options → UserInput → Solution → List ℕ
explanations options input solution = flat_map (λ asked. flat_map (explanation_text input solution options.prefix.is_raw options.explain_depth)
    (listed (asked_symbol solution.tree options.prefix.prefix asked))) (map string_bytes options.explain.items)

abbrev pub explained_text : Options → UserInput → Solution → List ℕ
explained_text options input solution =
    explanations options input solution ++ question_text [] (map string_bytes options.explain.items)

-- The lines of lost values. With --explain-lost, each is followed by the explanation of its symbol, and all by the causes, the one that holds most down
-- first, and by the question for the first of them. These lines begin like the warnings about values.
abbrev pub lost_symbols : Options → UserInput → Solution → List SymId
lost_symbols options input solution = filter (λ s. not (length (lost_at options.prefix.is_raw input.lines solution s) == 0)) solution.tree.defined

abbrev pub lost_text : Options → UserInput → Solution → List ℕ
lost_text options input solution = if options.explain_lost && options.warn_lost
    then (let lost = lost_symbols options input solution in let is_raw = options.prefix.is_raw in let front = lead options ++ codes "  " in
    flat_map (λ s. lines_text (lost_at is_raw input.lines solution s) ++ text_of_lines front (symbol_lines input solution is_raw s)) lost
    ++ text_of_lines front (causes_lines input solution is_raw lost (length lost)) ++ question_text front (map (name solution.tree) lost))
    else lines_text (lost_warnings options input solution)

-- What a run leaves if nothing is refused: the text of each output, and the warnings and the lost values. The tree opens the files `opened`.
module _ (files : Files) (options : Options) (opened : List (List ℕ)) (input : UserInput) (solution : Solution) where
  abbrev pub text_of : Output → List ℕ
  text_of Output.Config = config_text solution.tree options.prefix (solution_view solution)
  text_of Output.Header = header_text solution.tree options.prefix (solution_view solution)
  text_of Output.Minimal = minimal_text solution.tree options.prefix (solution_view solution)
  text_of Output.NewSymbols = if options.with_help then new_text_with_help files solution.tree.lines solution.tree options.prefix (solution_view solution)
      else new_text solution.tree options.prefix (solution_view solution)
  text_of Output.GoneLines = option_map_or (λ told. told.0 ++ told.1) input.gone []
  text_of Output.DependencyFile = rule_text (target options) (names_listed options opened)
  text_of Output.Explanation = explained_text options input solution

  abbrev pub done_outcome : Outcome
  done_outcome = record {
    texts = map (λ wanted. text_of wanted.kind) options.outputs.items;
    warned = lines_text (map (λ line. lead options ++ line) (warnings solution)) ++ lost_text options input solution;
    refusal = [];
    status = Status.Done;
  }

-- The outcome after the tree's warnings: a line that is too long is refused; otherwise it is that of the one solution, unless --strict refuses it.
pub data IsOutcomeOfReading (files : Files) (options : Options) (opened : List (List ℕ)) (tree : TreeFacts) (read : ReadResult) (outcome : Outcome) : Type 0 where
  long_line : (stop : StreamLocation) → read.stopped ≡ Some stop →
      outcome ≡ reported read.warned (refused_outcome (error_at stop.stream stop.number (run_error_text RunError.LineTooLong))) →
      IsOutcomeOfReading files options opened tree read outcome
  whole : (solution : Solution) → read.stopped ≡ None → IsSolutionFor tree read.input.places solution →
      outcome ≡ reported read.warned (refused_if options (refuses_input options read.input solution) (done_outcome files options opened read.input solution)) →
      IsOutcomeOfReading files options opened tree read outcome

-- What a run leaves without --strict-tree. The tree opens the files `opened`, and the input files hold the bytes `all`.
pub data IsLenientOutcome (files : Files) (options : Options) (opened all : List (List ℕ)) (outcome : Outcome) : Type 0 where
  refused_tree : (r : Refused) → IsRefusedTree files (root_file options) r → outcome ≡ refused_outcome (refusal_line r) → IsLenientOutcome files options opened all outcome
  refused_name : (tree : TreeFacts) (name : List ℕ) → IsAcceptedTree files (root_file options) tree → unreadable_name options opened ≡ Some name →
      outcome ≡ refused_outcome (lead options ++ error_line (run_error_text (RunError.UnreadableName (first_line name)))) →
      IsLenientOutcome files options opened all outcome
  unknown_symbol : (tree : TreeFacts) (asked : List ℕ) → IsAcceptedTree files (root_file options) tree → unreadable_name options opened ≡ None →
      unknown_name options tree ≡ Some asked →
      outcome ≡ refused_outcome (lead options ++ error_line (run_error_text (RunError.UnknownName (first_line asked) (near_text tree asked)))) →
      IsLenientOutcome files options opened all outcome
  accepted_tree : (tree : TreeFacts) → IsAcceptedTree files (root_file options) tree → unreadable_name options opened ≡ None →
      unknown_name options tree ≡ None → (rest : Outcome) × IsOutcomeOfReading files options opened tree (read_of options tree all) rest
      × (outcome ≡ reported (lines_text tree.warnings) rest) → IsLenientOutcome files options opened all outcome

-- With --strict-tree, a run that would be done is refused if it has any warning.
abbrev pub is_done : Status → Bool
is_done status = elim status [ Status.Done ↦ true | _ ↦ false ]

abbrev pub strictly : Options → Outcome → Outcome
strictly options outcome = refused_if options (is_done outcome.status && (options.strict_tree && is_not_empty outcome.warned)) outcome

-- What a run must leave, given the tree's files, the options and the bytes of the input files.
abbrev pub IsOutcome : Files → Options → List (List ℕ) → Outcome → Type 0
IsOutcome files options all outcome = (lenient : Outcome) × (opened : List (List ℕ)) × IsLenientOutcome files options opened all lenient
    × AreOpened files (root_file options) opened × (outcome ≡ strictly options lenient)
