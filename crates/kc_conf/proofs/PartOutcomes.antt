-- What is left of an outcome after the tree's warnings.
use Rattle.std.proofs.Common.{◌≡◌, ◌⊎◌, inl, inr, ℕ, Bool, true, false, List, [], ◌∷◌, ◌++◌, refl, sym, ap, subst, ◌∙◌, append_assoc, append-nil, Option, None, Some}
use Rattle.std.specs.Option.{option_or}
use Rattle.std.specs.Prelude.{◌&&◌, ◌||◌, if◌then◌else◌, Result}
use Rattle.std.proofs.lemmas.List.{append_cancel_left}
use Rattle.kc_language.specs.Expansion.{AreOpened, Files}
use Rattle.kc_language.specs.Symbols.{TreeFacts}
use Rattle.kc_language.specs.Texts.{Solution}
use Rattle.kc_language.specs.ConfigFile.{ReadResult, StreamLocation, UserInput}
use Rattle.kc_language.specs.Text.{BeginsWith}
use Rattle.kc_io.specs.Log.{Log}
use Rattle.kc_io.specs.Delivery.{NamedText, texts_of, with_names}
use Rattle.kc_conf.specs.Computed.{refuses, value_lines}
use Rattle.kc_conf.specs.Endings.{Finishes, line_if, status_if, texts_or}
use Rattle.kc_outcome.specs.declared.outcome.WantedOutput.{WantedOutput}
use Rattle.kc_outcome.specs.Outcome.{Options, IsAcceptedTree, IsLenientOutcome, IsOutcome, IsOutcomeOfReading, Outcome, accepted_tree, done_outcome, is_not_empty, is_done, lines_text, long_line, reported, read_of, refused_outcome, refused_if, root_file, unknown_name, unreadable_name, whole, refuses_input}
use Rattle.kc_language.specs.Texts.{IsSolutionFor}
use Rattle.kc_conf.specs.PartsOfOutcome.{outcome_of, too_long_line}
use Rattle.kc_conf.specs.Faults.{IsRefusedName, NamesAreTaken, refused_name_of}
use Rattle.kc_conf.specs.LawSteps.{OneAnswer, OneOutcome}
use Rattle.kc_conf.specs.Laws.{ExactlyOneOutcome}
use Rattle.kc_conf.specs.Many.{ExactlyOnePart, IsPart, PartsAreOfRuns}
use Rattle.kc_conf.specs.PartsOfMany.{told_before}
use Rattle.kc_conf.specs.PartRuns.{IsLeft, strictly_after}
use Rattle.kc_conf.specs.Reads.{ended_with}
use Rattle.kc_outcome.specs.declared.outcome.Status.{Status}
use Rattle.kc_conf.specs.declared.stop.Stop.{Stop}
use Rattle.kc_conf.proofs.Once.{AreOf, lenient_is, one_opened}
use Rattle.kc_conf.proofs.OutcomeLemmas.{strictly-reported, strictly_after-warned, warned_if}

-- ---- what is refused has no text

with_names-none : (outputs : List WantedOutput) → with_names outputs [] ≡ []
with_names-none [] = refl
with_names-none (wanted ∷ outputs) = refl

pub texts-none : (options : Options) → with_names options.outputs.items [] ≡ []
texts-none options = with_names-none options.outputs.items

-- ---- what is left of an outcome

-- where no name is refused, each is read, and each is that of a symbol
pub both-taken : (unread unknown : Option (List ℕ)) → option_or unread unknown ≡ None → (unread ≡ None) × (unknown ≡ None)
both-taken None unknown e = (refl, e)
both-taken (Some name) unknown e = absurd (let clash : Some name ≡ None = e in cc)

-- what stands behind the same text is the same
same_left : (text : List ℕ) (a b : Outcome) → reported text a ≡ reported text b → a ≡ b
same_left text a b e =
    let w : a.warned ≡ b.warned = append_cancel_left text a.warned b.warned (ap (λ (o : Outcome). o.warned) e) in
    ap (λ (t : List ℕ). let o : Outcome = record a { warned = t } in o) w ∙ ap (λ (p : Outcome). let o : Outcome = record p { warned = b.warned } in o) e

-- what follows from the input files of this tree, as it is left after the tree's warnings
abbrev pub part_by : Options → TreeFacts → Outcome → Outcome
part_by options tree rest = strictly_after options (is_not_empty (lines_text tree.warnings)) rest

module _ (law : OneAnswer) (files : Files) (options : Options) (tree : TreeFacts) (accepted : IsAcceptedTree files (root_file options) tree) where
  module _ (opened : List (List ℕ)) (are : AreOpened files (root_file options) opened) where
    -- a name is refused
    pub left-name : (told : List ℕ) (all : List (List ℕ)) (name : List ℕ) (outcome : Outcome) → refused_name_of options opened tree ≡ Some name → IsOutcome files options all outcome →
        IsLeft files options tree told all outcome
    left-name told all name outcome refuses is = (opened, are, subst (λ u. IsOutcome files options all (reported (told_before told u) outcome)) (sym refuses) is)

    -- none is
    module _ (taken : refused_name_of options opened tree ≡ None) where
      pub names-taken : NamesAreTaken files options
      names-taken other others second others_are =
          ap (refused_name_of options others) (law.one_accepted files (root_file options) other tree second accepted)
          ∙ ap (λ l. refused_name_of options l tree) (one_opened files (root_file options) tree others opened accepted others_are are) ∙ taken

      -- an outcome follows from the input files
      pub rest-of : (all : List (List ℕ)) (lenient : Outcome) → IsLenientOutcome files options opened all lenient →
          (rest : Outcome) × IsOutcomeOfReading files options opened tree (read_of options tree all) rest × (lenient ≡ reported (lines_text tree.warnings) rest)
      rest-of all lenient is =
          let names = both-taken (unreadable_name options opened) (unknown_name options tree) taken in
          let of : AreOf law files options opened all tree accepted None None lenient = rw (names.0, names.1) at (lenient_is law files options opened all tree accepted lenient is) in of

      pub rest-exists : ExactlyOneOutcome → (all : List (List ℕ)) → (rest : Outcome) × IsOutcomeOfReading files options opened tree (read_of options tree all) rest
      rest-exists outcomes all =
          let (outcome, (lenient, others, is_lenient, others_are, is), only) = outcomes files options all in
          let of = rest-of all lenient (subst (λ l. IsLenientOutcome files options l all lenient) (one_opened files (root_file options) tree others opened accepted others_are are) is_lenient) in
          (of.0, of.1)

      -- with the tree's warnings before it, it is the outcome
      is_whole : (all : List (List ℕ)) (rest : Outcome) → IsOutcomeOfReading files options opened tree (read_of options tree all) rest →
          IsOutcome files options all (reported (lines_text tree.warnings) (part_by options tree rest))
      is_whole all rest of =
          let names = both-taken (unreadable_name options opened) (unknown_name options tree) taken in
          (reported (lines_text tree.warnings) rest, opened, accepted_tree tree accepted names.0 names.1 (rest, of, refl), are, strictly-reported options (lines_text tree.warnings) rest)

      -- with some of these warnings before it, it is what is left after the others
      pub left-rest : (told more : List ℕ) → lines_text tree.warnings ≡ told ++ more → (all : List (List ℕ)) (rest : Outcome) → IsOutcomeOfReading files options opened tree (read_of options tree all) rest →
          IsLeft files options tree told all (reported more (part_by options tree rest))
      left-rest told more both all rest of =
          let part = part_by options tree rest in
          let same = ap (λ (w : List ℕ). let o : Outcome = record part { warned = w } in o) (ap (λ t. t ++ part.warned) both ∙ append_assoc told more part.warned) in
          (opened, are, subst (λ u. IsOutcome files options all (reported (told_before told u) (reported more part))) (sym taken) (subst (λ o. IsOutcome files options all o) same (is_whole all rest of)))

  -- something is left
  pub left-exists : ExactlyOneOutcome → (told more : List ℕ) → lines_text tree.warnings ≡ told ++ more → (all : List (List ℕ)) → (left : Outcome) × IsLeft files options tree told all left
  left-exists outcomes told more both all =
      let (outcome, (lenient, opened, is_lenient, are, is), only) = outcomes files options all in
      by opened are outcome (lenient, opened, is_lenient, are, is) (refused_name_of options opened tree) refl
    where
      by : (opened : List (List ℕ)) → AreOpened files (root_file options) opened → (outcome : Outcome) → IsOutcome files options all outcome → (refused : Option (List ℕ)) →
          refused_name_of options opened tree ≡ refused → (left : Outcome) × IsLeft files options tree told all left
      by opened are outcome is None taken = let (rest, of) = rest-exists opened are taken outcomes all in (_, left-rest opened are taken told more both all rest of)
      by opened are outcome is (Some name) e = (outcome, left-name opened are told all name outcome e is)

  -- and it is one
  one_left : OneOutcome → (told : List ℕ) (all : List (List ℕ)) (a b : Outcome) → IsLeft files options tree told all a → IsLeft files options tree told all b → a ≡ b
  one_left outcomes told all a b (opened, are, is) (others, are', is') =
      let text = told_before told (refused_name_of options opened tree) in
      let is'' = subst (λ l. IsOutcome files options all (reported (told_before told (refused_name_of options l tree)) b)) (one_opened files (root_file options) tree others opened accepted are' are) is' in
      same_left text a b (outcomes files options all (reported text a) (reported text b) is is'')

-- where nothing was told before, all is left
pub left-all : (files : Files) (options : Options) (tree : TreeFacts) (all : List (List ℕ)) (outcome : Outcome) → IsLeft files options tree [] all outcome → IsOutcome files options all outcome
left-all files options tree all outcome (opened, are, is) = by (refused_name_of options opened tree) is
  where
    by : (refused : Option (List ℕ)) → IsOutcome files options all (reported (told_before [] refused) outcome) → IsOutcome files options all outcome
    by None is = is
    by (Some name) is = is

pub exactly_one_part_law : OneAnswer → OneOutcome → ExactlyOneOutcome → ExactlyOnePart
exactly_one_part_law law one outcomes files tree options all accepted =
    let told = lines_text tree.warnings in
    let (part, is) = left-exists law files options tree accepted outcomes told [] (sym (append-nil told)) all in
    (part, is, λ other is'. one_left law files options tree accepted one told all part other is is')

-- a run leaves what is told of the tree and its part, or only its part
part-of : (law : OneAnswer) → OneOutcome → ExactlyOneOutcome → (files : Files) (tree : TreeFacts) (options : Options) (all : List (List ℕ)) (outcome : Outcome) → IsAcceptedTree files (root_file options) tree →
    IsOutcome files options all outcome → (opened : List (List ℕ)) → AreOpened files (root_file options) opened → (refused : Option (List ℕ)) → refused_name_of options opened tree ≡ refused →
    (part : Outcome) × IsPart files tree options all part × ((outcome ≡ reported (lines_text tree.warnings) part) ⊎ ((name : List ℕ) × IsRefusedName files options name × (outcome ≡ part)))
part-of law one outcomes files tree options all outcome accepted is opened are None taken =
    let told = lines_text tree.warnings in
    let (rest, of) = rest-exists law files options tree accepted opened are taken outcomes all in (
      part_by options tree rest,
      left-rest law files options tree accepted opened are taken told [] (sym (append-nil told)) all rest of,
      inl (one files options all outcome (reported told (part_by options tree rest)) is (is_whole law files options tree accepted opened are taken all rest of)),
    )
part-of law one outcomes files tree options all outcome accepted is opened are (Some name) refuses = (
  outcome,
  left-name law files options tree accepted opened are (lines_text tree.warnings) all name outcome refuses is,
  inr (name, record { tree = tree; accepted = accepted; opened = opened; are_opened = are; refuses = refuses }, refl),
)

pub parts_are_of_runs_law : OneAnswer → OneOutcome → ExactlyOneOutcome → PartsAreOfRuns
parts_are_of_runs_law law one outcomes files tree options all outcome accepted is =
    part-of law one outcomes files tree options all outcome accepted is is.1 is.3 (refused_name_of options is.1 tree) refl

module _ (files : Files) (options : Options) (opened : List (List ℕ)) (tree : TreeFacts) (read : ReadResult) where
  -- its warnings begin with those of the streams
  pub rest-begins : (rest : Outcome) → IsOutcomeOfReading files options opened tree read rest → BeginsWith rest.warned read.warned
  rest-begins rest (long_line stop stopped is) = ([], ap (λ (o : Outcome). o.warned) is)
  rest-begins rest (whole solution none solves is) = ((outcome_of files options opened read.input solution).warned, ap (λ (o : Outcome). o.warned) is)

  -- ---- a line is too long

  pub rest-long : (input : UserInput) (warned : List ℕ) (stop : StreamLocation) → read ≡ ended_with input warned (Some stop) →
      IsOutcomeOfReading files options opened tree read (reported warned (refused_outcome (too_long_line stop)))
  rest-long input warned stop e =
      subst (λ (r : ReadResult). IsOutcomeOfReading files options opened tree r (reported warned (refused_outcome (too_long_line stop)))) (sym e) (long_line stop refl refl)

  -- ---- all lines were read

  pub rest-whole : (input : UserInput) (warned : List ℕ) (solution : Solution) → read ≡ ended_with input warned None →
      IsSolutionFor tree input.places solution → IsOutcomeOfReading files options opened tree read (reported warned (outcome_of files options opened input solution))
  rest-whole input warned solution e is =
      subst (λ (r : ReadResult). IsOutcomeOfReading files options opened tree r (reported warned (outcome_of files options opened input solution))) (sym e) (whole solution refl is refl)

-- only under --strict-tree it matters what was said
strict-same : (strict before : Bool) (x y : List ℕ) → (strict ≡ true → x ≡ y) → (strict && (before || is_not_empty x)) ≡ (strict && (before || is_not_empty y))
strict-same true before x y same = ap (λ t. before || is_not_empty t) (same refl)
strict-same false before x y same = refl

module _ (files : Files) (options : Options) (opened : List (List ℕ)) (input : UserInput) (warned : List ℕ) (solution : Solution) where
  abbrev made : Bool → Outcome
  made refused_too = reported warned (refused_if options refused_too (done_outcome files options opened input solution))

  abbrev given_by : Bool → Option (List NamedText)
  given_by b = if b then None else Some (texts_of options (done_outcome files options opened input solution))

  -- the part has this line, these texts and this status
  abbrev Has : Outcome → Option (List NamedText) → Type 0
  Has part given = (part.refusal ≡ line_if options given) × (texts_of options part ≡ texts_or given) × (part.status ≡ status_if given)

  has-by : (r q : Bool) → Has (refused_if options (is_done (made r).status && q) (made r)) (given_by (r || q))
  has-by true q = (refl, texts-none options, refl)
  has-by false true = (refl, texts-none options, refl)
  has-by false false = (refl, refl, refl)

  pub part-has : (before : Bool) (text : List ℕ) → (options.strict_tree ≡ true → text ≡ warned ++ value_lines options input solution) →
      Has (strictly_after options before (reported warned (outcome_of files options opened input solution))) (given_by (refuses options input solution before text))
  part-has before text same =
      let r = refuses_input options input solution in
      let told : (made r).warned ≡ warned ++ value_lines options input solution = ap (λ t. warned ++ t) (warned_if options (done_outcome files options opened input solution) r) in
      subst (λ q. Has (strictly_after options before (made r)) (given_by (r || q)))
      (strict-same options.strict_tree before (made r).warned text (λ on. told ∙ sym (same on)))
      (has-by r (options.strict_tree && (before || is_not_empty (made r).warned)))

  pub part-says : (before : Bool) → (strictly_after options before (reported warned (outcome_of files options opened input solution))).warned ≡ warned ++ value_lines options input solution
  part-says before =
      strictly_after-warned options before (made (refuses_input options input solution))
      ∙ ap (λ t. warned ++ t) (warned_if options (done_outcome files options opened input solution) (refuses_input options input solution))

-- the end of a run, in the terms of its part
pub Finishes-part : (options : Options) (part : Outcome) (given : Option (List NamedText)) (waits : List ℕ) (result : Result Status Stop) (old new : Log) →
    (part.refusal ≡ line_if options given) × (texts_of options part ≡ texts_or given) × (part.status ≡ status_if given) →
    Finishes options (waits ++ line_if options given) (texts_or given) (status_if given) result old new → Finishes options (waits ++ part.refusal) (texts_of options part) part.status result old new
Finishes-part options part given waits result old new (line, texts, status) ends =
    subst (λ l. Finishes options (waits ++ l) (texts_of options part) part.status result old new) (sym line)
    (subst (λ t. Finishes options (waits ++ line_if options given) t part.status result old new) (sym texts)
    (subst (λ s. Finishes options (waits ++ line_if options given) (texts_or given) s result old new) (sym status) ends))
