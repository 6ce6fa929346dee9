-- There is an outcome.
use Rattle.std.proofs.Common.{◌≡◌, ◌⊎◌, ℕ, ◌<◌, List, [], length, map, Option, Some, None, Result, Ok, Err, refl, sym, ◌∙◌, arith, inl, inr, ◌++◌}
use Rattle.std.specs.List.{range_with_len}
use Rattle.std.specs.Prelude.{◌||◌}
use Rattle.kc_outcome.specs.declared.outcome.Output.{Output}
use Rattle.kc_language.specs.declared.expressions.SymId.{SymId}
use Rattle.std.proofs.lemmas.List.FromFn.{get_or-map-range_with_len, length-map-range_with_len}
use Rattle.kc_language.specs.Expressions.{SymbolValue, TextValue}
use Rattle.kc_language.specs.declared.expressions.SymbolType.TheVariants.{Undefined}
use Rattle.kc_language.specs.Expansion.{AreOpened, Refused, Files}
use Rattle.kc_read.specs.OpenedFiles.{OpenedAreOneList}
use Rattle.kc_read.specs.Existing.{HasOneExpansion}
use Rattle.kc_language.specs.Symbols.{TreeFacts, IsTreeOf}
use Rattle.kc_entries.specs.PartsOfSymbols.{tree_of_log}
use Rattle.kc_build.specs.Trees.{TreesAreWellFormed}
use Rattle.kc_user.specs.Places.{ArePlaces}
use Rattle.kc_language.specs.ConfigFile.{Places, place_at, StreamLocation}
use Rattle.kc_order.specs.Laws as order
use Rattle.kc_language.specs.Values.{IsOnlySolution, Solves, equations, name_count}
use Rattle.kc_values.specs.Laws.{AcceptedHaveOneSolution, EquationsReadNeeds, NeedingAreDefined, NeedsAreSymbols}
use Rattle.kc_language.specs.Needs.{needs, needs_of, loop_text, loop_refused}
use Rattle.kc_language.specs.Texts.{Solution, value_of}
use Rattle.kc_input.specs.Streams.{StreamsLeavePlaces}
use Rattle.kc_outcome.specs.Outcome.{Options, fresh_input, lead, refusal_line, IsAcceptedTree, IsLenientOutcome, IsOutcome, IsOutcomeOfReading, IsRefusedTree, Outcome, accepted_tree, lines_text, long_line, looped, input_names, no_tree, reported, read_of, refused_outcome, refused_name, refused_tree, root_file, streams, strictly, unknown_name, unknown_symbol, unreadable_name, wants, whole}
use Rattle.kc_conf.specs.PartsOfOutcome.{too_long_line, unknown_line, unreadable_line}
use Rattle.kc_conf.specs.PartsOfOutcome.{outcome_of}
use Rattle.kc_conf.specs.LawSteps.{SolutionExists}
use Rattle.kc_conf.specs.LawSteps.{AcceptedHaveAnOutcome, AnswerExists, OutcomeExists}

-- ---- a solution

module _ (reads : EquationsReadNeeds) (within : NeedsAreSymbols) (tree : TreeFacts) (places : Places) (V : ℕ → SymbolValue) where
  abbrev values : List SymbolValue
  values = map V (range_with_len 0 (name_count tree))

  abbrev listed : Solution
  listed = record { tree = tree; places = places; values = values }

  same_value : (i : ℕ) → i < name_count tree → value_of listed i ≡ V i
  same_value i l = get_or-map-range_with_len V 0 (name_count tree) i i (TextValue Undefined []) l (omega arith)

  needs_long : length (needs tree) ≡ name_count tree
  needs_long = length-map-range_with_len (needs_of tree) 0 (name_count tree)

  listed_solves : Solves (name_count tree) (equations tree (place_at places)) V → Solves (name_count tree) (equations tree (place_at places)) (value_of listed)
  listed_solves solves i l =
      let long = needs_long in
      same_value i l ∙ solves i l
      ∙ reads tree (place_at places) i V (value_of listed)
      (λ t c. sym (same_value t (let lt : t < length (needs tree) = within tree i t (omega arith) c in omega arith)))

  listed_only : IsOnlySolution (name_count tree) (equations tree (place_at places)) V → IsOnlySolution (name_count tree) (equations tree (place_at places)) (value_of listed)
  listed_only only W solves i l = only W solves i l ∙ sym (same_value i l)

pub solution_exists : AcceptedHaveOneSolution → EquationsReadNeeds → NeedsAreSymbols → SolutionExists
solution_exists exists reads within tree places accepted there =
    let (V, solves, only) = exists tree (place_at places) accepted in (
      record { tree = tree; places = places; values = map V (range_with_len 0 (name_count tree)) },
      record {
        tree_is = refl;
        places_are = refl;
        solves = record {
          places = there;
          count = length-map-range_with_len V 0 (name_count tree);
          solves = listed_solves reads within tree places V solves;
          only = listed_only reads within tree places V only;
        };
      },
    )

-- ---- an answer

module _ (expands : HasOneExpansion) (either : order.AcceptedOrUnordered) (named : order.UnorderedHaveALoop) (within : NeedsAreSymbols) (defined : NeedingAreDefined) (formed : TreesAreWellFormed) where
  tree_answer : (files : Files) (root : List ℕ) (r : Result TreeFacts Refused) → IsTreeOf files root r →
      ((tree : TreeFacts) × IsAcceptedTree files root tree) ⊎ ((r : Refused) × IsRefusedTree files root r)
  tree_answer files root (Err r) built = inr (r, no_tree built)
  tree_answer files root (Ok tree) built = elim (either (needs tree)) [
    | inl accepted ↦ inl (tree, record { built = built; accepted = accepted })
    | inr stuck ↦
        let (loop, is) = named (map (λ (s : SymId). s.0) tree.defined) (needs tree) (defined tree (formed files root tree built)) (within tree) stuck in
        inr (loop_refused (loop_text tree loop), looped tree (loop_text tree loop) built (loop, is, refl) refl)
  ]

  pub answer_exists : AnswerExists
  answer_exists files root = let (e, is, only) = expands files root in tree_answer files root (tree_of_log e) (e, is, refl)

-- ---- an outcome

-- with warnings refused, where that is asked for
ended : (files : Files) (options : Options) (opened all : List (List ℕ)) (lenient : Outcome) → AreOpened files (root_file options) opened →
    IsLenientOutcome files options opened all lenient → (outcome : Outcome) × IsOutcome files options all outcome
ended files options opened all lenient are is =
    (strictly options lenient, (lenient, opened, is, are, refl))

module _ (opens : OpenedAreOneList) (formed : TreesAreWellFormed) (leaves : StreamsLeavePlaces) (solved : SolutionExists) where
  of_stop : (files : Files) (options : Options) (opened all : List (List ℕ)) (tree : TreeFacts) → IsAcceptedTree files (root_file options) tree →
      (stopped : Option StreamLocation) → (read_of options tree all).stopped ≡ stopped →
      (rest : Outcome) × IsOutcomeOfReading files options opened tree (read_of options tree all) rest
  of_stop files options opened all tree accepted (Some stop) is = (reported (read_of options tree all).warned (refused_outcome (too_long_line stop)), long_line stop is refl)
  of_stop files options opened all tree accepted None is =
      let held : ArePlaces tree (read_of options tree all).input.places =
      leaves tree options.prefix (options.warn_lost || wants options Output.Explanation) (fresh_input options tree).gone options.warn_lost (lead options) (streams (input_names options) all) (formed files (root_file options) tree accepted.built) in
      let (solution, for) = solved tree (read_of options tree all).input.places accepted.accepted held.there in (
        reported (read_of options tree all).warned (outcome_of files options opened (read_of options tree all).input solution),
        whole solution is for refl,
      )

  pub accepted_outcome : AcceptedHaveAnOutcome
  accepted_outcome files options all tree accepted =
      let (opened, are, only) = opens files (root_file options) in
      by opened are (unreadable_name options opened) (unknown_name options tree) refl refl
    where
      by : (opened : List (List ℕ)) → AreOpened files (root_file options) opened → (found unknown : Option (List ℕ)) → unreadable_name options opened ≡ found → unknown_name options tree ≡ unknown →
          (outcome : Outcome) × IsOutcome files options all outcome
      by opened are (Some name) unknown unread is = ended files options opened all (refused_outcome (lead options ++ unreadable_line name)) are (refused_name tree name accepted unread refl)
      by opened are None (Some asked) read is =
          ended files options opened all (refused_outcome (lead options ++ unknown_line tree asked)) are (unknown_symbol tree asked accepted read is refl)
      by opened are None None read known =
          let (rest, part) = of_stop files options opened all tree accepted (read_of options tree all).stopped refl in
          ended files options opened all (reported (lines_text tree.warnings) rest) are (accepted_tree tree accepted read known (rest, part, refl))

  pub outcome_exists : AnswerExists → OutcomeExists
  outcome_exists answer files options all = elim (answer files (root_file options)) [
    | inl a ↦ accepted_outcome files options all a.0 a.1
    | inr b ↦
        let (opened, are, only) = opens files (root_file options) in
        ended files options opened all (refused_outcome (refusal_line b.0)) are (refused_tree b.0 b.1 refl)
  ]
