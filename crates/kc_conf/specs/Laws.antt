-- Trusted: Laws of outcomes: there is exactly one, its texts restore the values, no line is lost, --strict passes only lines taken as written, explanations decide.
-- Our own. Each law is the contract of a function that does nothing (src/laws.rt).
use Rattle.kc_language.specs.{ConfigFile.{Assigns, Effect, Line, Notation, Nothing, Silent, StreamLocation, Warns, effect, is_prefix, is_reported, lines_of, line_meaning, plain_location, stream_location, value_text, located_warning_line}, Expansion.{AreOpened, Files, Refused}, Texts.{IsSolutionFor, ConfigGivesBack, HasShortLines, MinimalGivesBack, MinimalNeedsEach, Solution, config_text, has_prompt, header_text, known, lost_warning, minimal_text, solution_view, value_of, value_warnings}, Symbols.{SymbolFacts, TreeFacts}, Values.{GivenValue, facts, given_of, name, same_given}, declared.{diagnostics.Warning.TheVariants.{Changed, SetAgain}, expressions.{SymId.{SymId}, SymbolType.{SymbolType}}}}
use Rattle.kc_outcome.specs.{Explanations.{facts_in, words_of}, Outcome.{IsAcceptedTree, IsOutcome, IsRefusedTree, Options, Outcome, done_outcome, is_outside, lead, lines_text, input_names, read_of, refuses_input, reported, root_file, streams}, declared.outcome.{Output.{Output}, Status.{Status}, WantedOutput.{WantedOutput}}}
use Rattle.std.specs.{List.{list_any}, Prelude.{All, Bool, Contains, List, None, Some, [], false, length, map, slice_get, true, ℕ, ◌++◌, ◌<◌, ◌∷◌, ◌≡◌, ◌⊎◌}}
use Rattle.kc_conf.specs.Faults.{AreLines, NamesAreTaken, diagnostics_of}

-- ---- There is exactly one outcome
-- For any files a root file has one accepted tree and no refusal, or one refusal and no accepted tree.
abbrev pub ExactlyOneAnswer : Type 0
ExactlyOneAnswer = (files : Files) (root : List ℕ) →
    ((tree : TreeFacts) × IsAcceptedTree files root tree × ((other : TreeFacts) → IsAcceptedTree files root other → tree ≡ other)
    × ((r : Refused) → IsRefusedTree files root r → ⊥))
    ⊎ ((r : Refused) × IsRefusedTree files root r × ((other : Refused) → IsRefusedTree files root other → r ≡ other)
    × ((tree : TreeFacts) → IsAcceptedTree files root tree → ⊥))

-- For all files, options and input files there is exactly one outcome. Its diagnostics are whole lines.
abbrev pub ExactlyOneOutcome : Type 0
ExactlyOneOutcome = (files : Files) (options : Options) (all : List (List ℕ)) →
    (outcome : Outcome) × IsOutcome files options all outcome × ((other : Outcome) → IsOutcome files options all other → outcome ≡ other)

abbrev pub DiagnosticsAreLines : Type 0
DiagnosticsAreLines = (files : Files) (options : Options) (all : List (List ℕ)) (outcome : Outcome) →
    IsOutcome files options all outcome → AreLines (diagnostics_of outcome)

-- ---- What the texts give when they are read again
-- A run that refuses nothing: its tree is accepted, no line of its input files is too long, and these are the values.
pub record RefusesNothing (files : Files) (options : Options) (all : List (List ℕ)) (tree : TreeFacts) (solution : Solution) : Type 0 where
  pub accepted : IsAcceptedTree files (root_file options) tree
  pub read_whole : (read_of options tree all).stopped ≡ None
  pub solution_is : IsSolutionFor tree (read_of options tree all).input.places solution

-- Each output of this kind has this text.
abbrev pub HasText : Options → Outcome → Output → List ℕ → Type 0
HasText options outcome kind text = (i : ℕ) (wanted : WantedOutput) → slice_get options.outputs.items i ≡ Some wanted → wanted.kind ≡ kind →
    slice_get outcome.texts i ≡ Some text

-- There is one text for each output. The `.config`, the header and the minimal file, if they are wanted, are the texts of this solution.
pub record HasItsTexts (options : Options) (tree : TreeFacts) (solution : Solution) (outcome : Outcome) : Type 0 where
  pub count : length outcome.texts ≡ length options.outputs.items
  pub config : HasText options outcome Output.Config (config_text tree options.prefix (solution_view solution))
  pub header : HasText options outcome Output.Header (header_text tree options.prefix (solution_view solution))
  pub minimal : HasText options outcome Output.Minimal (minimal_text tree options.prefix (solution_view solution))

-- An outcome of status Done belongs to a run that refuses nothing, and all its texts are those of the values.
abbrev pub DoneAreWhole : Type 0
DoneAreWhole = (files : Files) (options : Options) (all : List (List ℕ)) (outcome : Outcome) →
    IsOutcome files options all outcome → outcome.status ≡ Status.Done →
    (tree : TreeFacts) × (solution : Solution) × RefusesNothing files options all tree solution
    × ((opened : List (List ℕ)) × AreOpened files (root_file options) opened × (outcome ≡ reported (lines_text tree.warnings)
    (reported (read_of options tree all).warned (done_outcome files options opened (read_of options tree all).input solution))))
    × (refuses_input options (read_of options tree all).input solution ≡ false)

-- Each text of such a run is read alone, from no user values. The minimal file restores the values; with any nonempty set of its lines left out it
-- does not. The .config restores them if and only if `ConfigGivesBack` holds. No line of them is too long to be read again.
abbrev pub TextsAreReadAgain : Type 0
TextsAreReadAgain = (files : Files) (options : Options) (all : List (List ℕ)) (tree : TreeFacts) (solution : Solution) →
    is_prefix options.prefix.prefix ≡ true → RefusesNothing files options all tree solution →
    MinimalGivesBack tree options.prefix solution.places (value_of solution) × MinimalNeedsEach tree options.prefix solution.places (value_of solution)
    × ConfigGivesBack tree options.prefix solution.places (value_of solution)
    × HasShortLines (config_text tree options.prefix (solution_view solution)) × HasShortLines (minimal_text tree options.prefix (solution_view solution))

-- The texts of an outcome of status Done are those of one solution, and the laws above hold for each of them that is wanted.
abbrev pub OutcomesAreReadAgain : Type 0
OutcomesAreReadAgain = (files : Files) (options : Options) (all : List (List ℕ)) (outcome : Outcome) →
    is_prefix options.prefix.prefix ≡ true → IsOutcome files options all outcome → outcome.status ≡ Status.Done →
    (tree : TreeFacts) × (solution : Solution) × RefusesNothing files options all tree solution × HasItsTexts options tree solution outcome
    × MinimalGivesBack tree options.prefix solution.places (value_of solution) × MinimalNeedsEach tree options.prefix solution.places (value_of solution)
    × ConfigGivesBack tree options.prefix solution.places (value_of solution)
    × HasShortLines (config_text tree options.prefix (solution_view solution)) × HasShortLines (minimal_text tree options.prefix (solution_view solution))

-- options with the same root file and prefix, and without fragments
pub record AreAlone (options alone : Options) : Type 0 where
  pub root : root_file alone ≡ root_file options
  pub prefix : alone.prefix ≡ options.prefix
  pub no_fragments : alone.fragments.items ≡ []

-- The later run ends Done with the values of this solution. It writes the `.config` and the header of this solution, if they are wanted.
pub record HasSameValues (files : Files) (alone : Options) (all : List (List ℕ)) (tree : TreeFacts) (solution : Solution) (later : Outcome) : Type 0 where
  pub done : later.status ≡ Status.Done
  pub again : Solution
  pub is_whole : RefusesNothing files alone all tree again
  pub values : again.values ≡ solution.values
  pub count : length later.texts ≡ length alone.outputs.items
  pub config : HasText alone later Output.Config (config_text tree alone.prefix (solution_view solution))
  pub header : HasText alone later Output.Header (header_text tree alone.prefix (solution_view solution))

-- A run on the minimal file alone, which allows warnings and refuses no name, has the values of the outcome to which the file belongs. (A run that
-- refuses warnings may write nothing: the file's lines may have warnings that the input files did not have.)
abbrev pub MinimalIsRunAgain : Type 0
MinimalIsRunAgain = (files : Files) (options alone : Options) (all : List (List ℕ)) (outcome : Outcome) →
    is_prefix options.prefix.prefix ≡ true → AreAlone options alone → alone.strict ≡ false → alone.strict_tree ≡ false → NamesAreTaken files alone →
    IsOutcome files options all outcome → outcome.status ≡ Status.Done →
    (tree : TreeFacts) × (solution : Solution) × RefusesNothing files options all tree solution × HasItsTexts options tree solution outcome
    × (let text = minimal_text tree options.prefix (solution_view solution) in
    (later : Outcome) → IsOutcome files alone (text ∷ []) later → HasSameValues files alone (text ∷ []) tree solution later)

-- ---- With warn_lost, no line of the input files is lost
-- The line is in the text, after whole lines.
abbrev pub HoldsLine : List ℕ → List ℕ → Type 0
HoldsLine text line = (before after : List ℕ) × (text ≡ before ++ line ++ after) × AreLines before

-- The next line that gives the symbol a value is reported to set it again. If its value is different, it is reported to change it from the value of
-- this line. The location of this line there has no configuration name.
abbrev pub IsSetAgain : TreeFacts → Notation → List ℕ → StreamLocation → SymId → SymbolType → GivenValue → List Line → Type 0
IsSetAgain tree prefix warned from s symbol_type given later = (front back : List Line) × (next : Line) × (other : GivenValue)
    × (later ≡ front ++ next ∷ back) × All (λ m. (value : GivenValue) → effect tree prefix m ≡ Assigns s value → ⊥) front
    × (effect tree prefix next ≡ Assigns s other)
    × HoldsLine warned (located_warning_line next.stream next.number (SetAgain (name tree s))) × (same_given given other ≡ false →
    HoldsLine warned (located_warning_line next.stream next.number
    (Changed (name tree s) (value_text prefix.is_raw symbol_type given) from.stream from.number (value_text prefix.is_raw symbol_type other))))

-- A line of this effect, before these lines, is accounted for: it has no meaning, it has a warning, or its value is replaced, kept or reported.
module _ (tree : TreeFacts) (prefix : Notation) (lead : List ℕ) (solution : Solution) (warned : List ℕ) where
  abbrev pub IsAccountedFor : Line → List Line → Effect → Type 0
  IsAccountedFor l later Silent = line_meaning tree prefix l ≡ Nothing
  IsAccountedFor l later (Warns line_warning) = HoldsLine warned (located_warning_line l.stream l.number line_warning)
  IsAccountedFor l later (Assigns s given) = (f : SymbolFacts) × (facts tree s ≡ Some f)
      × (IsSetAgain tree prefix warned (plain_location lead (stream_location l)) s f.symbol_type given later ⊎ ((given ≡ given_of (known solution s))
      ⊎ HoldsLine warned (located_warning_line l.stream l.number
      (lost_warning prefix.is_raw (has_prompt f.prompts) (name tree s) f.symbol_type given (given_of (known solution s))))))

-- If the status is Done, the texts are those of the solution, and the warnings account for each line of the input files by its values.
abbrev pub NothingIsLost : Type 0
NothingIsLost = (files : Files) (options : Options) (all : List (List ℕ)) (outcome : Outcome) →
    IsOutcome files options all outcome → outcome.status ≡ Status.Done → options.warn_lost ≡ true →
    (tree : TreeFacts) × (solution : Solution) × RefusesNothing files options all tree solution × HasItsTexts options tree solution outcome
    × ((before later : List Line) (l : Line) → lines_of (streams (input_names options) all) ≡ before ++ l ∷ later →
    IsAccountedFor tree options.prefix (lead options) solution outcome.warned l later (effect tree options.prefix l))

-- ---- With --strict, no line passes that was not taken as written
-- A line of this effect, before these lines: it has no meaning; or its warning is not reported (K16, only without warn_lost); or no later line gives
-- its symbol another value, and with warn_lost its value is the symbol's.
module _ (tree : TreeFacts) (prefix : Notation) (warn_lost : Bool) (solution : Solution) where
  abbrev pub IsTakenAsWritten : Line → List Line → Effect → Type 0
  IsTakenAsWritten l later Silent = line_meaning tree prefix l ≡ Nothing
  IsTakenAsWritten l later (Warns line_warning) = is_reported warn_lost line_warning ≡ false
  IsTakenAsWritten l later (Assigns s given) =
      ((m : Line) (other : GivenValue) → Contains later m → effect tree prefix m ≡ Assigns s other → other ≡ given)
      × (warn_lost ≡ true → given ≡ given_of (known solution s))

-- If the status is Done, each line of the input files was taken as written, and no user value has a warning.
abbrev pub StrictTakesAll : Type 0
StrictTakesAll = (files : Files) (options : Options) (all : List (List ℕ)) (outcome : Outcome) →
    IsOutcome files options all outcome → outcome.status ≡ Status.Done → options.strict ≡ true →
    (tree : TreeFacts) × (solution : Solution) × RefusesNothing files options all tree solution × HasItsTexts options tree solution outcome
    × (list_any is_outside (value_warnings solution) ≡ false)
    × ((before later : List Line) (l : Line) → lines_of (streams (input_names options) all) ≡ before ++ l ∷ later →
    IsTakenAsWritten tree options.prefix options.warn_lost solution l later (effect tree options.prefix l))

-- ---- What an explanation prints decides the value
-- The lines about a symbol in a run's explanation of it, without the first line, the menus and the locations in input files.
abbrev pub words_about : Options → List (List ℕ) → TreeFacts → Solution → SymId → List (List ℕ)
words_about options all tree solution s = map (words_of options.prefix.is_raw tree) (facts_in (read_of options tree all).input solution s)

-- Two runs over one tree that refuse nothing, with any options and input files, if both write strings raw or both escaped. If the lines about a symbol are
-- the same, so is its value.
abbrev pub ExplanationsDecide : Type 0
ExplanationsDecide = (files : Files) (a b : Options) (first second : List (List ℕ)) (tree : TreeFacts) (A B : Solution) (s : SymId) →
    RefusesNothing files a first tree A → RefusesNothing files b second tree B → a.prefix.is_raw ≡ b.prefix.is_raw → s.0 < length tree.names →
    words_about a first tree A s ≡ words_about b second tree B s → value_of A s.0 ≡ value_of B s.0
