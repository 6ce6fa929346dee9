-- A run that tells what must be set so that a symbol has a value: what its outcome is, and how it ends.
use Rattle.std.proofs.Common.{◌≡◌, inl, inr, ◌∙◌, ℕ, Bool, true, false, List, [], ◌++◌, refl, sym, ap, subst, append_assoc, append-nil, map, Option, None, Some, Result, Err}
use Rattle.std.specs.Prelude.{if◌then◌else◌, ◌&&◌, ◌||◌}
use Rattle.kc_language.specs.ConfigFile.{ReadResult, StreamLocation, UserInput}
use Rattle.kc_language.specs.Expansion.{Files}
use Rattle.kc_language.specs.Symbols.{TreeFacts}
use Rattle.kc_language.specs.Text.{BeginsWith}
use Rattle.kc_language.specs.Texts.{IsSolutionFor, Solution}
use Rattle.kc_language.specs.Values.{GivenValue, facts, type_in}
use Rattle.kc_language.specs.declared.expressions.SymId.{SymId}
use Rattle.kc_io.specs.Delivery.{NamedText, texts_of}
use Rattle.kc_io.specs.Inputs.{bytes_of}
use Rattle.kc_io.specs.Log.{Leads, Log}
use Rattle.kc_load.specs.Loading.{ExpandsAlike}
use Rattle.kc_options.specs.PartsOfOutcome.{holds_warnings}
use Rattle.kc_outcome.specs.Outcome.{IsLenientOutcome, IsOutcomeOfReading, Options, Outcome, fresh_input, is_not_empty, lead, lines_text, read_of, refusal_line, refused_if, refused_outcome, reported, root_file, strictly, unknown_name, unreadable_name}
use Rattle.kc_outcome.specs.Outcome as rules
use Rattle.kc_outcome.specs.declared.outcome.Output.{Output}
use Rattle.kc_outcome.specs.declared.outcome.Status.{Status}
use Rattle.kc_outcome.specs.declared.outcome.Status.TheVariants.{Done, Refused}
use Rattle.kc_read.specs.OpenedFiles.{OpenedAreOneList}
use Rattle.kc_read.specs.declared.refusal.Refusal.{Refusal}
use Rattle.kc_how.specs.How.{wanted_value}
use Rattle.kc_how.specs.declared.answer.Miss.TheVariants.{NoTryLeft}
use Rattle.kc_conf.specs.Accepted.{IsAcceptedOf, IsRefusalOf}
use Rattle.kc_conf.specs.Endings.{Answers, Finishes, Refuses, RefusesTree, line_if, status_if, texts_or}
use Rattle.kc_conf.specs.Faults.{refused_name as reads_no_name, refused_name_of}
use Rattle.kc_conf.specs.How.{HowRuns, HowRunsEach, HowTurn, IsHowOutcome, IsHowPart, IsLenientHow, IsToldOf, IsToldOfReading, accepted_tree, asked_first, heading, long_line, no_value, not_found, nothing_asked, refused_name, refused_tree, told, unknown_symbol, whole}
use Rattle.kc_conf.specs.HowParts.{given_unless, named_with}
use Rattle.kc_conf.specs.LawSteps.{OneAnswer}
use Rattle.kc_conf.specs.Laws.{ExactlyOneOutcome}
use Rattle.kc_conf.specs.Many.{AreRootedAt}
use Rattle.kc_conf.specs.Many as many
use Rattle.kc_conf.specs.PartRuns.{IsHowLeft, Leaves, TellsRest}
use Rattle.kc_conf.specs.PartsOfFaults.{nothing_said, said_of_tree}
use Rattle.kc_conf.specs.PartsOfMany.{told_before}
use Rattle.kc_conf.specs.PartsOfOutcome.{name_refusal, refusal_by, too_long_line, unknown_line, unreadable_line}
use Rattle.kc_conf.specs.Reads.{ReadsInputs}
use Rattle.kc_conf.specs.RefusedNames.{refused_line}
use Rattle.kc_conf.specs.declared.accepted.OrderedTree.{OrderedTree}
use Rattle.kc_conf.specs.declared.names.RefusedName.{RefusedName}
use Rattle.kc_conf.specs.declared.reading.Waiting.{Waiting}
use Rattle.kc_conf.specs.declared.reply.Asked.{Asked}
use Rattle.kc_conf.specs.declared.stop.Stop.{Stop}
use Rattle.kc_conf.specs.declared.stop.Stop.TheVariants.{OutOfMemory}
use Rattle.kc_conf.proofs.ComputedLemmas.{named-map}
use Rattle.kc_conf.proofs.FolderLemmas.{accepted_over, alike_for, all_over, end_over, ends_over, opened_over, refused_over}
use Rattle.kc_conf.proofs.InputParts.{some-refused}
use Rattle.kc_conf.proofs.OutcomeLemmas.{strictly-reported, strictly_after-warned}
use Rattle.kc_conf.proofs.PartOutcomes.{both-taken, names-taken, part_by, rest-exists, texts-none}
use Rattle.kc_conf.proofs.ReadParts.{GoesOn, Leaves-ended, Leaves-long, read-is, split-said, strict-holds, waits-held}
use Rattle.kc_conf.proofs.RefusedNames.{refused_with}
use Rattle.kc_conf.proofs.RunParts.{Answered, Leaves-memory, Leaves-refused, Leaves-untreed, answered}

-- ---- outcomes

-- something can be told of any input
module _ (options : Options) (asked : Asked) (tree : TreeFacts) where
  told-exists : (input : UserInput) (solution : Solution) → (answer : Outcome) × IsToldOf options asked tree input solution answer
  told-exists input solution = by (asked_first options tree) refl
    where
      of : (s : SymId) → asked_first options tree ≡ Some s → (wanted : Option GivenValue) → wanted_value options.prefix.is_raw (type_in (facts tree s)) asked.value.now ≡ wanted →
          (answer : Outcome) × IsToldOf options asked tree input solution answer
      of s is None e = (_, no_value s is e refl)
      of s is (Some value) e = (_, not_found (record { symbol = s; value = value }) NoTryLeft (record { symbol = is; value = e }) refl)

      by : (first : Option SymId) → asked_first options tree ≡ first → (answer : Outcome) × IsToldOf options asked tree input solution answer
      by None is = (_, nothing_asked is refl)
      by (Some s) is = of s is (wanted_value options.prefix.is_raw (type_in (facts tree s)) asked.value.now) refl

  -- so of any reading
  reading-told : (files : Files) (opened : List (List ℕ)) (read : ReadResult) (rest : Outcome) → IsOutcomeOfReading files options opened tree read rest → (told : Outcome) × IsToldOfReading options asked tree read told
  reading-told files opened read rest (rules.long_line stop stopped is) = (rest, long_line stop stopped is)
  reading-told files opened read rest (rules.whole solution none solves is) =
      let (answer, of) = told-exists read.input solution in (reported read.warned answer, whole solution answer none solves of refl)

  -- its warnings begin with those of the streams
  told-begins : (read : ReadResult) (rest : Outcome) → IsToldOfReading options asked tree read rest → BeginsWith rest.warned read.warned
  told-begins read rest (long_line stop stopped is) = ([], ap (λ (o : Outcome). o.warned) is)
  told-begins read rest (whole solution answer none solves of is) = (answer.warned, ap (λ (o : Outcome). o.warned) is)

-- any files have an outcome
how-exists : ExactlyOneOutcome → (files : Files) (options : Options) (asked : Asked) (all : List (List ℕ)) → (outcome : Outcome) × IsHowOutcome files options asked all outcome
how-exists outcomes files options asked all =
    let (outcome, (lenient, opened, is, are, same), only) = outcomes files options all in
    let (how, of) = by opened lenient is in (strictly options how, (how, opened, of, are, refl))
  where
    by : (opened : List (List ℕ)) (lenient : Outcome) → IsLenientOutcome files options opened all lenient → (how : Outcome) × IsLenientHow files options asked opened all how
    by opened lenient (rules.refused_tree r x e) = (lenient, refused_tree r x e)
    by opened lenient (rules.refused_name tree name x unread e) = (lenient, refused_name tree name x unread e)
    by opened lenient (rules.unknown_symbol tree name x read unknown e) = (lenient, unknown_symbol tree name x read unknown e)
    by opened lenient (rules.accepted_tree tree x read known (rest, of, e)) =
        let (told, is) = reading-told options asked tree files opened (read_of options tree all) rest of in
        (reported (lines_text tree.warnings) told, accepted_tree tree x read known (told, is, refl))

-- a tree is refused, or there was no memory for it
pub Leaves-how-untreed : OpenedAreOneList → ExactlyOneOutcome → (files : Files) (options : Options) (asked : Asked) (r : Refusal) (result : Result Status Stop) (old new : Log) → IsRefusalOf files (root_file options) r →
    RefusesTree r result old new → Leaves files options said_of_tree (IsHowOutcome files options asked) result old new
Leaves-how-untreed opens outcomes files options asked =
    let (opened, are, only) = opens files (root_file options) in
    Leaves-untreed files options (IsHowOutcome files options asked) (how-exists outcomes files options asked)
    (λ r is all. (refused_outcome (refusal_line r), opened, refused_tree r is refl, are, refl))

module _ (law : OneAnswer) (outcomes : ExactlyOneOutcome) {files : Files} {options : Options} {accepted : OrderedTree} {before : TreeFacts → List ℕ} {said : List ℕ} (tells : TellsRest files options accepted before said) (asked : Asked) where
  abbrev tree : TreeFacts
  tree = accepted.laid.tree.now

  abbrev opened : List (List ℕ)
  opened = accepted.opened.now

  -- a name is refused: all is left
  how-left-named : (all : List (List ℕ)) (name : List ℕ) (how : Outcome) → refused_name_of options opened tree ≡ Some name → IsHowOutcome files options asked all how → IsHowLeft files options asked tree said all how
  how-left-named all name how refuses is = (opened, tells.accepts.opened, subst (λ u. IsHowOutcome files options asked all (reported (told_before said u) how)) (sym refuses) is)

  -- what is told of the input files, behind the tree's warnings, is the outcome; behind some of them, it is left after the others
  how-left-rest : refused_name_of options opened tree ≡ None → (all : List (List ℕ)) (rest : Outcome) → IsToldOfReading options asked tree (read_of options tree all) rest →
      IsHowLeft files options asked tree said all (reported (before tree) (part_by options tree rest))
  how-left-rest taken all rest is =
      let part = part_by options tree rest in
      let names = both-taken (unreadable_name options opened) (unknown_name options tree) taken in
      let whole : IsHowOutcome files options asked all (reported (lines_text tree.warnings) part) =
      (reported (lines_text tree.warnings) rest, opened, accepted_tree tree tells.accepts.tree names.0 names.1 (rest, is, refl), tells.accepts.opened, strictly-reported options (lines_text tree.warnings) rest) in
      let same = ap (λ (w : List ℕ). let o : Outcome = record part { warned = w } in o) (ap (λ t. t ++ part.warned) tells.both ∙ append_assoc said (before tree) part.warned) in
      (opened, tells.accepts.opened, subst (λ u. IsHowOutcome files options asked all (reported (told_before said u) (reported (before tree) part))) (sym taken) (subst (λ o. IsHowOutcome files options asked all o) same whole))

  -- something is left
  how-left-exists : (all : List (List ℕ)) → (left : Outcome) × IsHowLeft files options asked tree said all left
  how-left-exists all = by (refused_name_of options opened tree) refl
    where
      by : (refused : Option (List ℕ)) → refused_name_of options opened tree ≡ refused → (left : Outcome) × IsHowLeft files options asked tree said all left
      by None taken =
          let (rest, is) = rest-exists law files options tree tells.accepts.tree opened tells.accepts.opened taken outcomes all in
          let (answer, told_is) = reading-told options asked tree files opened (read_of options tree all) rest is in
          (_, how-left-rest taken all answer told_is)
      by (Some name) refuses = let (how, is) = how-exists outcomes files options asked all in (how, how-left-named all name how refuses is)

  -- there was no memory
  pub Leaves-how-unread : {old new : Log} → Leads [] [] old new → Leaves files options before (IsHowLeft files options asked tree said) (Err OutOfMemory) old new
  Leaves-how-unread log = Leaves-memory files options before (IsHowLeft files options asked tree said) how-left-exists log

  -- a name is refused
  named-line : (all : List (List ℕ)) (unread unknown : Option (List ℕ)) (line : List ℕ) → unreadable_name options opened ≡ unread → unknown_name options tree ≡ unknown →
      refusal_by tree unread unknown ≡ Some line → IsLenientHow files options asked opened all (refused_outcome (lead options ++ line))
  named-line all (Some name) unknown line is is' e =
      let same : unreadable_line name ≡ line = (let both : Some (unreadable_line name) ≡ Some line = e in cc) in
      refused_name tree name tells.accepts.tree is (ap (λ l. refused_outcome (lead options ++ l)) (sym same))
  named-line all None (Some name) line is is' e =
      let same : unknown_line tree name ≡ line = (let both : Some (unknown_line tree name) ≡ Some line = e in cc) in
      unknown_symbol tree name tells.accepts.tree is is' (ap (λ l. refused_outcome (lead options ++ l)) (sym same))
  named-line all None None line is is' e = absurd (let clash : None ≡ Some line = e in cc)

  pub Leaves-how-unnamed : (name : RefusedName) (result : Result Status Stop) (old new : Log) → name_refusal options opened tree ≡ Some (refused_line name) → Refuses (lead options ++ refused_line name) result old new →
      Leaves files options before (IsHowLeft files options asked tree said) result old new
  Leaves-how-unnamed name result old new refuses refused =
      let line = lead options ++ refused_line name in
      let (called, is) = refused_with options opened tree (refused_line name) refuses in
      Leaves-refused files options before (IsHowLeft files options asked tree said) line result old new (some-refused options name)
      (λ inputs log. reads_no_name called (record { tree = tree; accepted = tells.accepts.tree; opened = opened; are_opened = tells.accepts.opened; refuses = is }))
      (λ all. how-left-named all called (refused_outcome line) is
      (refused_outcome line, opened, named-line all (unreadable_name options opened) (unknown_name options tree) (refused_line name) refl refl refuses, tells.accepts.opened, refl)) refused

  module _ (taken : refused_name_of options opened tree ≡ None) where
    -- something is left after the tree's warnings
    pub how-goes : GoesOn files options before tree (IsHowLeft files options asked tree said)
    how-goes = record {
      accepted = tells.accepts.tree;
      lines = tells.lines;
      named = names-taken law files options tree tells.accepts.tree opened tells.accepts.opened taken;
      part_of = λ all.
          let (rest, is) = rest-exists law files options tree tells.accepts.tree opened tells.accepts.opened taken outcomes all in
          let (told, told_is) = reading-told options asked tree files opened (read_of options tree all) rest is in
          let (more, begins) = told-begins options asked tree (read_of options tree all) told told_is in
          (part_by options tree told, how-left-rest taken all told told_is, (more, strictly_after-warned options (is_not_empty (lines_text tree.warnings)) told ∙ begins));
    }

    module _ {input : UserInput} (fresh : input ≡ fresh_input options tree) {start old : Log} (h : Leads [] (before tree) start old) where
      -- a line is too long
      pub Leaves-how-long : (stop : StreamLocation) {after : UserInput} {waiting : Waiting} {mid : Log} (result : Result Status Stop) (new : Log) → ReadsInputs options tree (Some stop) input after waiting old mid →
          Finishes options (waiting.text.items ++ too_long_line stop) [] Refused result mid new → Leaves files options before (IsHowLeft files options asked tree said) result start new
      Leaves-how-long stop result new r ends =
          Leaves-long how-goes fresh h stop result new r
          (how-left-rest taken (bytes_of r.inputs) (reported r.warned (refused_outcome (too_long_line stop))) (subst (λ (x : ReadResult). IsToldOfReading options asked tree x (reported r.warned (refused_outcome (too_long_line stop))))
          (sym (read-is fresh r)) (long_line stop refl refl))) ends

      -- the input files were read, and the reply is this outcome
      replied : {after : UserInput} {waiting : Waiting} {mid : Log} (r : ReadsInputs options tree None input after waiting old mid) (answer : Outcome) (solution : Solution) → IsSolutionFor tree after.places solution →
          IsToldOf options asked tree after solution answer → IsToldOfReading options asked tree (read_of options tree (bytes_of r.inputs)) (reported r.warned answer)
      replied {after = after} r answer solution solves is =
          subst (λ (x : ReadResult). IsToldOfReading options asked tree x (reported r.warned answer)) (sym (read-is fresh r)) (whole solution answer refl solves is refl)

      -- it is refused
      pub Leaves-how-refused : {after : UserInput} {waiting : Waiting} {mid : Log} (lines : List ℕ) (result : Result Status Stop) (new : Log) → ReadsInputs options tree None input after waiting old mid →
          (solution : Solution) → IsSolutionFor tree after.places solution → IsToldOf options asked tree after solution (refused_outcome lines) → Finishes options (waiting.text.items ++ lines) [] Refused result mid new →
          Leaves files options before (IsHowLeft files options asked tree said) result start new
      Leaves-how-refused {waiting = waiting} {mid = mid} lines result new r solution solves is ends =
          let rest : Outcome = reported r.warned (refused_outcome lines) in
          Leaves-ended how-goes fresh h waiting.text.items (part_by options tree rest) result r (how-left-rest taken (bytes_of r.inputs) rest (replied r (refused_outcome lines) solution solves is))
          (ap (λ l. (if waiting.holds then [] else r.warned) ++ l) (r.waits ∙ sym (append-nil (if waiting.holds then r.warned else []))) ∙ split-said waiting.holds r.warned [])
          (subst (λ (t : List NamedText). Finishes options (waiting.text.items ++ lines) t Refused result mid new) (sym (texts-none options)) ends)

      -- the text is delivered, unless --strict-tree refuses the warnings
      abbrev answer-if : Bool → List ℕ → List ℕ → Outcome
      answer-if refuses warned text = refused_if options refuses (reported warned (told options text))

      finishes-if : (refuses : Bool) (waits warned text : List ℕ) (result : Result Status Stop) (mid new : Log) →
          (let given : Option (List NamedText) = if refuses then None else Some (map (named_with (heading options ++ text)) options.outputs.items) in
          Finishes options (waits ++ line_if options given) (texts_or given) (status_if given) result mid new) →
          (let part = answer-if refuses warned text in Finishes options (waits ++ part.refusal) (texts_of options part) part.status result mid new)
      finishes-if true waits warned text result mid new ends =
          subst (λ (t : List NamedText). Finishes options (waits ++ line_if options None) t Refused result mid new) (sym (texts-none options)) ends
      finishes-if false waits warned text result mid new ends =
          subst (λ (t : List NamedText). Finishes options (waits ++ []) t Done result mid new) (named-map (λ (kind : Output). heading options ++ text) options.outputs.items) ends

      -- only under --strict-tree it matters what waits
      strict-waits : (waiting : Waiting) (warned : List ℕ) → waiting.holds ≡ holds_warnings options → waiting.text.items ≡ (if waiting.holds then warned else []) →
          (options.strict_tree && (is_not_empty (lines_text tree.warnings) || is_not_empty (warned ++ []))) ≡ (options.strict_tree && (is_not_empty (lines_text tree.warnings) || is_not_empty waiting.text.items))
      strict-waits waiting warned holds waits = by options.strict_tree refl
        where
          by : (strict : Bool) → options.strict_tree ≡ strict → (strict && (is_not_empty (lines_text tree.warnings) || is_not_empty (warned ++ [])))
              ≡ (strict && (is_not_empty (lines_text tree.warnings) || is_not_empty waiting.text.items))
          by false off = refl
          by true on = ap (λ t. is_not_empty (lines_text tree.warnings) || is_not_empty t) (append-nil warned ∙ sym (waits ∙ waits-held waiting.holds warned (holds ∙ strict-holds options on)))

      pub Leaves-how-told : {after : UserInput} {waiting : Waiting} {mid : Log} (text : List ℕ) (given : Option (List NamedText)) (result : Result Status Stop) (new : Log) → ReadsInputs options tree None input after waiting old mid →
          waiting.holds ≡ holds_warnings options → (solution : Solution) → IsSolutionFor tree after.places solution → IsToldOf options asked tree after solution (told options text) →
          given ≡ given_unless options (is_not_empty (lines_text tree.warnings)) waiting.text.items text → Finishes options (waiting.text.items ++ line_if options given) (texts_or given) (status_if given) result mid new →
          Leaves files options before (IsHowLeft files options asked tree said) result start new
      Leaves-how-told {waiting = waiting} {mid = mid} text given result new r holds solution solves is given_is ends =
          let rest : Outcome = reported r.warned (told options text) in
          let refuses = options.strict_tree && (is_not_empty (lines_text tree.warnings) || is_not_empty waiting.text.items) in
          let same : part_by options tree rest ≡ answer-if refuses r.warned text = ap (λ b. refused_if options b rest) (strict-waits waiting r.warned holds r.waits) in
          Leaves-ended how-goes fresh h waiting.text.items (part_by options tree rest) result r (how-left-rest taken (bytes_of r.inputs) rest (replied r (told options text) solution solves is))
          (ap (λ l. (if waiting.holds then [] else r.warned) ++ l) (r.waits ∙ sym (append-nil (if waiting.holds then r.warned else []))) ∙ split-said waiting.holds r.warned []
          ∙ sym (strictly_after-warned options (is_not_empty (lines_text tree.warnings)) rest))
          (subst (λ (part : Outcome). Finishes options (waiting.text.items ++ part.refusal) (texts_of options part) part.status result mid new) (sym same)
          (finishes-if refuses waiting.text.items r.warned text result mid new (rw given_is at ends)))

-- all of the tree's warnings are still to be told
pub tells-all : {files : Files} {options : Options} {accepted : OrderedTree} → IsAcceptedOf files options accepted → TellsRest files options accepted said_of_tree []
tells-all {accepted = accepted} of = record { accepts = of; both = refl; lines = (accepted.laid.tree.now.warnings, refl) }

-- where nothing was told before, all is left
pub how-left-all : (files : Files) (options : Options) (asked : Asked) (tree : TreeFacts) (all : List (List ℕ)) (outcome : Outcome) → IsHowLeft files options asked tree [] all outcome →
    IsHowOutcome files options asked all outcome
how-left-all files options asked tree all outcome (opened, are, is) = by (refused_name_of options opened tree) is
  where
    by : (refused : Option (List ℕ)) → IsHowOutcome files options asked all (reported (told_before [] refused) outcome) → IsHowOutcome files options asked all outcome
    by None is = is
    by (Some name) is = is

-- ---- what a run answers

pub HowRuns-answered : (files : Files) (options : Options) (asked : Asked) (result : Result Status Stop) (status : Status) (is_over : Bool) (old mid new : Log) →
    Leaves files options said_of_tree (IsHowOutcome files options asked) result old mid → Answers options result status is_over mid new → HowRuns files options asked old new status
HowRuns-answered files options asked result status is_over old mid new run answers =
    let a : Answered files options said_of_tree (IsHowOutcome files options asked) status is_over old new = answered result run answers in
    record { inputs = a.inputs; are_inputs = a.are_inputs; outcome = a.outcome; is_outcome = a.is_outcome; ends = elim a.ends [ inl c ↦ inl c.0 | inr b ↦ inr b.0 ] }

pub HowTurn-answered : (files : Files) (tree : TreeFacts) (options : Options) (asked : Asked) (result : Result Status Stop) (status : Status) (is_over : Bool) (old mid new : Log) →
    Leaves files options nothing_said (IsHowPart files tree options asked) result old mid → Answers options result status is_over mid new → HowTurn asked files tree options old new status is_over
HowTurn-answered files tree options asked result status is_over old mid new run answers =
    let a : Answered files options nothing_said (IsHowPart files tree options asked) status is_over old new = answered result run answers in
    record { inputs = a.inputs; are_inputs = a.are_inputs; part = a.outcome; is_part = a.is_outcome; ends = elim a.ends [ inl c ↦ many.whole c.0 c.1 | inr b ↦ many.broken b.0 b.1 ] }

-- ---- a folder's files

-- from these files to others that expand alike
module _ (options : Options) (files others : Files) (alike : ExpandsAlike (root_file options) files others) (asked : Asked) where
  lenient_over : (names all : List (List ℕ)) (outcome : Outcome) → IsLenientHow files options asked names all outcome → IsLenientHow others options asked names all outcome
  lenient_over names all outcome (refused_tree r x e) = refused_tree r (refused_over (root_file options) files others alike r x) e
  lenient_over names all outcome (refused_name tree name x unread e) = refused_name tree name (accepted_over (root_file options) files others alike tree x) unread e
  lenient_over names all outcome (unknown_symbol tree name x read unknown e) = unknown_symbol tree name (accepted_over (root_file options) files others alike tree x) read unknown e
  lenient_over names all outcome (accepted_tree tree x read known y) = accepted_tree tree (accepted_over (root_file options) files others alike tree x) read known y

  outcome_over : (all : List (List ℕ)) (outcome : Outcome) → IsHowOutcome files options asked all outcome → IsHowOutcome others options asked all outcome
  outcome_over all outcome (lenient, names, is, are, same) = (lenient, names, lenient_over names all lenient is, opened_over (root_file options) files others alike names are, same)

  -- a run over these files is one over the others
  pub how_over : (old new : Log) (status : Status) → HowRuns files options asked old new status → HowRuns others options asked old new status
  how_over old new status r = record {
    inputs = r.inputs;
    are_inputs = r.are_inputs;
    outcome = r.outcome;
    is_outcome = outcome_over _ r.outcome r.is_outcome;
    ends = ends_over options files others alike _ r.inputs r.outcome old new status r.ends;
  }

-- the same for many configurations
module _ (root : List ℕ) (files others : Files) (alike : ExpandsAlike root files others) (asked : Asked) where
  how_turn_over : (tree : TreeFacts) (options : Options) (old new : Log) (status : Status) (is_over : Bool) → root_file options ≡ root → HowTurn asked files tree options old new status is_over →
      HowTurn asked others tree options old new status is_over
  how_turn_over tree options old new status is_over rooted r =
      let same = alike_for root files others alike options rooted in
      let (opened, are, is) = r.is_part in
      record {
        inputs = r.inputs;
        are_inputs = r.are_inputs;
        part = r.part;
        is_part = (opened, opened_over (root_file options) files others same opened are, outcome_over options files others same asked _ _ is);
        ends = end_over root files others alike options r.inputs r.part old new status is_over rooted r.ends;
      }

  pub how_each_over : (options : ℕ → Options → Type 0) (count : ℕ) (old new : Log) (status : Status) → AreRootedAt root options → HowRunsEach asked files root options count old new status →
      HowRunsEach asked others root options count old new status
  how_each_over = all_over root files others alike how_turn_over
