-- What a run's texts give when they are read again.
use Rattle.std.proofs.Common.{◌≡◌, ℕ, zero, suc, ◌<◌, true, false, List, [], ◌∷◌, ◌++◌, length, Option, Some, None, refl, ap, sym, ◌∙◌, subst, map}
use Rattle.std.specs.Prelude.{◌&&◌, ◌||◌, Ok, option_map, slice_get, not, string_bytes, slice_index_or}
use Rattle.kc_language.specs.Expressions.{SymbolValue, TextValue}
use Rattle.kc_language.specs.declared.expressions.SymbolType.TheVariants.{Undefined}
use Rattle.std.proofs.lemmas.List.{ext_get_or, length-map}
use Rattle.kc_language.specs.Expansion.{AreOpened, Files}
use Rattle.kc_conf.specs.Faults.{refused_name_of}
use Rattle.kc_conf.proofs.PartOutcomes.{rest-of}
use Rattle.kc_language.specs.Symbols.{TreeFacts}
use Rattle.kc_build.specs.Trees.{TreesAreWellFormed}
use Rattle.kc_user.specs.Places.{ArePlaces}
use Rattle.kc_language.specs.{ConfigFile.{Notation, Places, ReadResult, is_prefix, place_at, reading, reading_of}, Texts.{HasShortLines, IsOneSolution, Solution, SolutionView, config_text, header_text, minimal_text, read_alone, solution_view, valuation_view, value_of}, Values.{GivenValue, Solves, UserPlace, equations, name_count}}
use Rattle.kc_outcome.specs.declared.outcome.{Output.{Output}, Status.{Status}, WantedOutput.{WantedOutput}}
use Rattle.kc_config_file.specs.WrittenLaws.{ConfigIsIdempotent, ConfigIsOfValues, IsSolutionOf, MinimalHasNothingToSpare, MinimalRestores, WrittenTextsAreShort}
use Rattle.kc_input.specs.Streams.{StreamsLeavePlaces}
use Rattle.kc_outcome.specs.Outcome.{Options, lead, IsAcceptedTree, IsLenientOutcome, IsOutcomeOfReading, Outcome, accepted_tree, done_outcome, lines_text, long_line, input_names, reported, read_of, refused_name, refused_tree, root_file, streams, strictly, unknown_symbol, wants, whole, refused_if, refuses_input, text_of}
use Rattle.kc_language.specs.Texts.{IsSolutionFor}
use Rattle.kc_conf.specs.PartsOfOutcome.{is_taken}
use Rattle.kc_outcome.specs.Outcome.{fresh_input}
use Rattle.kc_conf.specs.LawSteps.{OneAnswer}
use Rattle.kc_conf.proofs.OutcomeLemmas.{strictly-done, strictly-off, done_kept}
use Rattle.kc_conf.specs.Laws.{AreAlone, DoneAreWhole, HasItsTexts, HasSameValues, OutcomesAreReadAgain, RefusesNothing, MinimalIsRunAgain, TextsAreReadAgain}

-- ---- what is done is of a whole run

abbrev Values : Files → Options → (opened all : List (List ℕ)) → Outcome → Type 0
Values files options opened all outcome =
    (tree : TreeFacts) × (solution : Solution) × RefusesNothing files options all tree solution
    × (outcome ≡ reported (lines_text tree.warnings)
    (reported (read_of options tree all).warned (done_outcome files options opened (read_of options tree all).input solution)))
    × (refuses_input options (read_of options tree all).input solution ≡ false)

-- the status of an outcome that is another one
status_is : (one other : Outcome) → one ≡ other → one.status ≡ Status.Done → other.status ≡ Status.Done
status_is one other is done = sym (ap (λ (o : Outcome). o.status) is) ∙ done

-- what is refused is not done
refused_never : {A : Type 0} → Status.Refused ≡ Status.Done → A
refused_never e = absurd cc

rest_whole : (files : Files) (options : Options) (opened all : List (List ℕ)) (tree : TreeFacts) (rest outcome : Outcome) →
    IsAcceptedTree files (root_file options) tree → IsOutcomeOfReading files options opened tree (read_of options tree all) rest → outcome ≡ reported (lines_text tree.warnings) rest →
    outcome.status ≡ Status.Done → Values files options opened all outcome
rest_whole files options opened all tree rest outcome accepted (long_line stop stopped is) from done =
    refused_never (status_is outcome _ (from ∙ ap (reported (lines_text tree.warnings)) is) done)
rest_whole files options opened all tree rest outcome accepted (whole solution none solves is) from done =
    let read = read_of options tree all in
    let files_too = done_outcome files options opened read.input solution in
    let whole_is = from ∙ ap (reported (lines_text tree.warnings)) is in
    let kept = done_kept options (refuses_input options read.input solution) files_too (status_is outcome _ whole_is done) in (
      tree,
      solution,
      record { accepted = accepted; read_whole = none; solution_is = solves },
      whole_is ∙ ap (λ b. reported (lines_text tree.warnings) (reported read.warned (refused_if options b files_too))) kept,
      kept,
    )

lenient_whole : (files : Files) (options : Options) (opened all : List (List ℕ)) (outcome : Outcome) → IsLenientOutcome files options opened all outcome →
    outcome.status ≡ Status.Done → Values files options opened all outcome
lenient_whole files options opened all outcome (refused_tree r why is) done = refused_never (status_is outcome _ is done)
lenient_whole files options opened all outcome (refused_name tree name why unread is) done = refused_never (status_is outcome _ is done)
lenient_whole files options opened all outcome (unknown_symbol tree asked why read unknown is) done = refused_never (status_is outcome _ is done)
lenient_whole files options opened all outcome (accepted_tree tree accepted read known (rest, part, is)) done =
    rest_whole files options opened all tree rest outcome accepted part is done

pub done_whole : DoneAreWhole
done_whole files options all outcome (lenient, opened, is_lenient, are, is) done =
    let part : Outcome = strictly options lenient in
    let part_done : part.status ≡ Status.Done = status_is outcome part is done in
    let same : part ≡ lenient = strictly-done options lenient part refl part_done in
    let (tree, solution, is_whole, values, kept) = lenient_whole files options opened all lenient is_lenient (status_is part lenient same part_done) in
    (tree, solution, is_whole, (opened, are, is ∙ same ∙ values), kept)

-- the text of an output
text-at : {A B : Type 0} (f : A → B) (xs : List A) (i : ℕ) (x : A) → slice_get xs i ≡ Some x → slice_get (map f xs) i ≡ Some (f x)
text-at f [] i x e = absurd (let clash : None ≡ Some x = e in cc)
text-at f (y ∷ xs) zero x e = ap (option_map f) e
text-at f (y ∷ xs) (suc i) x e = text-at f xs i x e

-- the texts of such an outcome
pub has_its_texts : (files : Files) (options : Options) (all : List (List ℕ)) (outcome : Outcome) (tree : TreeFacts) (solution : Solution) (opened : List (List ℕ)) → solution.tree ≡ tree →
    outcome ≡ reported (lines_text tree.warnings)
    (reported (read_of options tree all).warned (done_outcome files options opened (read_of options tree all).input solution)) →
    HasItsTexts options tree solution outcome
has_its_texts files options all outcome tree solution opened same is =
    let input = (read_of options tree all).input in
    let text : WantedOutput → List ℕ = λ wanted. text_of files options opened input solution wanted.kind in
    let texts : outcome.texts ≡ map text options.outputs.items = ap (λ (o : Outcome). o.texts) is in record {
      count = ap length texts ∙ length-map options.outputs.items text;
      config = λ i wanted at kind. ap (λ ts. slice_get ts i) texts ∙ text-at text options.outputs.items i wanted at
          ∙ ap (λ k. Some (text_of files options opened input solution k)) kind
          ∙ ap (λ (t : TreeFacts). Some (config_text t options.prefix (solution_view solution))) same;
      header = λ i wanted at kind. ap (λ ts. slice_get ts i) texts ∙ text-at text options.outputs.items i wanted at
          ∙ ap (λ k. Some (text_of files options opened input solution k)) kind
          ∙ ap (λ (t : TreeFacts). Some (header_text t options.prefix (solution_view solution))) same;
      minimal = λ i wanted at kind. ap (λ ts. slice_get ts i) texts ∙ text-at text options.outputs.items i wanted at
          ∙ ap (λ k. Some (text_of files options opened input solution k)) kind
          ∙ ap (λ (t : TreeFacts). Some (minimal_text t options.prefix (solution_view solution))) same;
    }

-- ---- the texts read again

module _ (formed : TreesAreWellFormed) (leaves : StreamsLeavePlaces) (files : Files) (options : Options) (all : List (List ℕ)) (tree : TreeFacts)
    (solution : Solution) (is : RefusesNothing files options all tree solution) where
  abbrev read_places : Places
  read_places = (read_of options tree all).input.places

  pub whole_solution : IsSolutionOf tree solution.places (value_of solution)
  whole_solution =
      let well = formed files (root_file options) tree is.accepted.built in
      let held : ArePlaces tree read_places = leaves tree options.prefix (options.warn_lost || wants options Output.Explanation) (fresh_input options tree).gone options.warn_lost (lead options) (streams (input_names options) all) well in
      record {
        formed = well;
        accepted = is.accepted.accepted;
        held = subst (ArePlaces tree) (sym is.solution_is.places_are) held;
        solves = subst (λ (t : TreeFacts). Solves (name_count t) (equations t (place_at solution.places)) (value_of solution)) is.solution_is.tree_is is.solution_is.solves.solves;
      }

pub texts_read_again : TreesAreWellFormed → StreamsLeavePlaces → MinimalRestores → MinimalHasNothingToSpare → ConfigIsIdempotent → WrittenTextsAreShort → TextsAreReadAgain
texts_read_again formed leaves restores spare settles short files options all tree solution is_pre is =
    let of_tree = whole_solution formed leaves files options all tree solution is in
    let shorts =
    subst (λ (f : TreeFacts). let t = valuation_view f (place_at solution.places) (value_of solution) in HasShortLines (config_text tree options.prefix t)
    × HasShortLines (minimal_text tree options.prefix t))
    (sym is.solution_is.tree_is) (short tree options.prefix solution.places (value_of solution) is_pre of_tree) in (
      restores tree options.prefix solution.places (value_of solution) is_pre of_tree,
      spare tree options.prefix solution.places (value_of solution) is_pre of_tree,
      settles tree options.prefix solution.places (value_of solution) is_pre of_tree,
      shorts.0,
      shorts.1,
    )

-- the same of an outcome's texts
pub outcomes_read_again : DoneAreWhole → TextsAreReadAgain → OutcomesAreReadAgain
outcomes_read_again wholes again files options all outcome is_pre is_outcome done =
    let (tree, solution, is, (opened, are, from), kept) = wholes files options all outcome is_outcome done in
    let (gives, needs, settles, short, short_minimal) = again files options all tree solution is_pre is in
    (tree, solution, is, has_its_texts files options all outcome tree solution opened is.solution_is.tree_is from, gives, needs, settles, short, short_minimal)

-- ---- a run on the minimal file alone

abbrev valued : List SymbolValue → ℕ → SymbolValue
valued values i = slice_index_or values i (TextValue Undefined [])

-- a text that is of the values alone is the same for solutions with the same values
text_same : (F : SolutionView → List ℕ) (tree : TreeFacts) → ((user other : UserPlace → Option GivenValue) (V : ℕ → SymbolValue) → F (valuation_view tree user V) ≡ F (valuation_view tree other V)) →
    (s t : Solution) → s.tree ≡ tree → t.tree ≡ tree → s.values ≡ t.values → F (solution_view s) ≡ F (solution_view t)
text_same F tree of_values s t a b values =
    ap (λ (f : TreeFacts). F (valuation_view f (place_at s.places) (value_of s))) a
    ∙ of_values (place_at s.places) (place_at t.places) (value_of s)
    ∙ ap (λ vs. F (valuation_view tree (place_at t.places) (valued vs))) values
    ∙ ap (λ (f : TreeFacts). F (valuation_view f (place_at t.places) (value_of t))) (sym b)

header_of_values : (tree : TreeFacts) (prefix : Notation) (user other : UserPlace → Option GivenValue) (V : ℕ → SymbolValue) →
    header_text tree prefix (valuation_view tree user V) ≡ header_text tree prefix (valuation_view tree other V)
unfolding header_text
header_of_values tree prefix user other V = refl

no_more_streams : (names : List (List ℕ)) → names ≡ [] → streams names [] ≡ []
no_more_streams [] e = refl
no_more_streams (n ∷ names) e = refl

-- two solutions under the same places, one of them the only one, have the same values
values_same : (tree : TreeFacts) (places : Places) (s t : Solution) → s.tree ≡ tree → length s.values ≡ name_count s.tree →
    IsOneSolution tree places (value_of s) → IsSolutionFor tree places t → t.values ≡ s.values
values_same tree places s t same count one is =
    let counts : length t.values ≡ length s.values = is.solves.count ∙ ap name_count (is.tree_is ∙ sym same) ∙ sym count in
    let first : Solves (name_count tree) (equations tree (place_at t.places)) (value_of t) =
    subst (λ (f : TreeFacts). Solves (name_count f) (equations f (place_at t.places)) (value_of t)) is.tree_is is.solves.solves in
    let solves : Solves (name_count tree) (equations tree (place_at places)) (value_of t) =
    subst (λ (p : Places). Solves (name_count tree) (equations tree (place_at p)) (value_of t)) is.places_are first in
    ext_get_or (TextValue Undefined []) t.values s.values counts (λ i lt. one.only (value_of t) solves i (subst (λ n. i < n) (is.solves.count ∙ ap name_count is.tree_is) lt))

module _ (config_same : ConfigIsOfValues) (answer : OneAnswer) (again : TextsAreReadAgain) (files : Files) (options alone : Options) (all : List (List ℕ)) (text : List ℕ)
    (is_pre : is_prefix options.prefix.prefix ≡ true) (same : AreAlone options alone) (lets_pass : alone.strict ≡ false) where
  module _ (tree : TreeFacts) (solution : Solution) (is : RefusesNothing files options all tree solution) (text_is : minimal_text tree options.prefix (solution_view solution) ≡ text) where
    abbrev name : List ℕ
    name = string_bytes alone.config

    abbrev read : ReadResult
    read = read_alone tree options.prefix name text

    restored : (read.stopped ≡ None) × IsOneSolution tree read.input.places (value_of solution)
    restored =
        let gives = (again files options all tree solution is_pre is).0 name in
        let told : minimal_text tree options.prefix (valuation_view tree (place_at solution.places) (value_of solution)) ≡ text =
        ap (λ (f : TreeFacts). minimal_text tree options.prefix (valuation_view f (place_at solution.places) (value_of solution))) (sym is.solution_is.tree_is) ∙ text_is in
        subst (λ t. let r = read_alone tree options.prefix name t in (r.stopped ≡ None) × IsOneSolution tree r.input.places (value_of solution)) told gives

    alone_streams : streams (input_names alone) (text ∷ []) ≡ record { name = name; bytes = text } ∷ []
    alone_streams =
        ap (λ ss. record { name = name; bytes = text } ∷ ss) (no_more_streams (map (λ name. lead alone ++ string_bytes name) alone.fragments.items) (ap (map (λ name. lead alone ++ string_bytes name)) same.no_fragments))

    reads_text : (read_of alone tree (text ∷ [])).stopped ≡ read.stopped
    unfolding reading
    reads_text =
        ap (λ p. (reading_of tree p (fresh_input alone tree) (streams (input_names alone) (text ∷ []))).stopped) same.prefix
        ∙ ap (λ ss. (reading_of tree options.prefix (fresh_input alone tree) ss).stopped) alone_streams

    leaves_places : (read_of alone tree (text ∷ [])).input.places ≡ read.input.places
    unfolding reading
    leaves_places =
        ap (λ p. (reading_of tree p (fresh_input alone tree) (streams (input_names alone) (text ∷ []))).input.places) same.prefix
        ∙ ap (λ ss. (reading_of tree options.prefix (fresh_input alone tree) ss).input.places) alone_streams

    same_root : IsAcceptedTree files (root_file alone) tree
    same_root = subst (λ root. IsAcceptedTree files root tree) (sym same.root) is.accepted

    of_reading : (opened : List (List ℕ)) (rest : Outcome) → IsOutcomeOfReading files alone opened tree (read_of alone tree (text ∷ [])) rest →
        HasSameValues files alone (text ∷ []) tree solution rest
    of_reading opened rest (long_line stop stopped was) =
        absurd (let e : Some stop ≡ None = sym stopped ∙ reads_text ∙ restored.0 in cc)
    of_reading opened rest (whole other none solves was) =
        let for : IsSolutionFor tree read.input.places other = subst (λ (p : Places). IsSolutionFor tree p other) leaves_places solves in
        let values = values_same tree read.input.places solution other is.solution_is.tree_is is.solution_is.solves.count restored.1 for in
        let input = (read_of alone tree (text ∷ [])).input in
        let passes : refuses_input alone input other ≡ false = ap (λ b. b && not (is_taken alone input other)) lets_pass in
        let now : rest ≡ reported (read_of alone tree (text ∷ [])).warned (done_outcome files alone opened input other) =
        was ∙ ap (λ b. reported (read_of alone tree (text ∷ [])).warned (refused_if alone b (done_outcome files alone opened input other))) passes in
        let made : WantedOutput → List ℕ = λ wanted. text_of files alone opened input other wanted.kind in
        record {
          done = ap (λ (o : Outcome). o.status) now;
          again = other;
          is_whole = record { accepted = same_root; read_whole = none; solution_is = solves };
          values = values;
          count = ap (λ (o : Outcome). length o.texts) now ∙ length-map alone.outputs.items made;
          config = λ i wanted at kind. ap (λ (o : Outcome). slice_get o.texts i) now ∙ text-at made alone.outputs.items i wanted at
              ∙ ap (λ k. Some (text_of files alone opened input other k)) kind
              ∙ ap (λ (t : TreeFacts). Some (config_text t alone.prefix (solution_view other))) for.tree_is
              ∙ ap Some (text_same (config_text tree alone.prefix) tree (config_same tree alone.prefix) other solution for.tree_is is.solution_is.tree_is values);
          header = λ i wanted at kind. ap (λ (o : Outcome). slice_get o.texts i) now ∙ text-at made alone.outputs.items i wanted at
              ∙ ap (λ k. Some (text_of files alone opened input other k)) kind
              ∙ ap (λ (t : TreeFacts). Some (header_text t alone.prefix (solution_view other))) for.tree_is
              ∙ ap Some (text_same (header_text tree alone.prefix) tree (header_of_values tree alone.prefix) other solution for.tree_is is.solution_is.tree_is values);
        }

    -- an outcome with the same status and texts
    carried : (rest later : Outcome) → later.status ≡ rest.status → later.texts ≡ rest.texts →
        HasSameValues files alone (text ∷ []) tree solution rest → HasSameValues files alone (text ∷ []) tree solution later
    carried rest later status texts has = record {
      done = status ∙ has.done;
      again = has.again;
      is_whole = has.is_whole;
      values = has.values;
      count = ap length texts ∙ has.count;
      config = λ i wanted at is. ap (λ ts. slice_get ts i) texts ∙ has.config i wanted at is;
      header = λ i wanted at is. ap (λ ts. slice_get ts i) texts ∙ has.header i wanted at is;
    }

    of_outcome : (opened : List (List ℕ)) (later : Outcome) → AreOpened files (root_file alone) opened → IsAcceptedTree files (root_file alone) tree → refused_name_of alone opened tree ≡ None →
        IsLenientOutcome files alone opened (text ∷ []) later → HasSameValues files alone (text ∷ []) tree solution later
    of_outcome opened later are accepted taken is_lenient =
        let (rest, of, was) = rest-of answer files alone tree accepted opened are taken (text ∷ []) later is_lenient in
        carried rest later (ap (λ (o : Outcome). o.status) was) (ap (λ (o : Outcome). o.texts) was) (of_reading opened rest of)

pub minimal_run_again : ConfigIsOfValues → OneAnswer → DoneAreWhole → TextsAreReadAgain → MinimalIsRunAgain
minimal_run_again config_same answer wholes again files options alone all outcome is_pre same lets_pass tree_passes read_all is_outcome done =
    let (tree, solution, is, (opened, are, from), kept) = wholes files options all outcome is_outcome done in
    let text = minimal_text tree options.prefix (solution_view solution) in (
      tree,
      solution,
      is,
      has_its_texts files options all outcome tree solution opened is.solution_is.tree_is from,
      λ later (lenient, others, second, are_too, was).
          let part : Outcome = strictly alone lenient in
          let off : part ≡ lenient = strictly-off alone lenient tree_passes in
          let accepted = same_root config_same answer again files options alone all text is_pre same lets_pass tree solution is refl in
          carried config_same answer again files options alone all text is_pre same lets_pass tree solution is refl lenient later
          (ap (λ (o : Outcome). o.status) (was ∙ off)) (ap (λ (o : Outcome). o.texts) (was ∙ off))
          (of_outcome config_same answer again files options alone all text is_pre same lets_pass tree solution is refl others lenient are_too accepted (read_all tree others accepted are_too) second),
    )
