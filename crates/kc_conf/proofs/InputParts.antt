-- What a run leaves of an accepted tree, by how its input files were read.
use Rattle.std.proofs.Common.{◌≡◌, ◌≢◌, ℕ, List, [], ◌++◌, refl, sym, ap, subst, ◌∙◌, Option, None, Some, Result, Err}
use Rattle.std.specs.Prelude.{if◌then◌else◌}
use Rattle.kc_language.specs.Expansion.{Files}
use Rattle.kc_language.specs.Symbols.{TreeFacts}
use Rattle.kc_language.specs.ConfigFile.{StreamLocation, UserInput}
use Rattle.kc_outcome.specs.Outcome.{Options, IsOutcomeOfReading, Outcome, first_line, fresh_input, is_not_empty, lead, lines_text, reported, read_of, refused_outcome}
use Rattle.kc_io.specs.Delivery.{NamedText, texts_of}
use Rattle.kc_io.specs.Inputs.{bytes_of}
use Rattle.kc_io.specs.Log.{Log, Leads}
use Rattle.kc_options.specs.PartsOfOutcome.{holds_warnings}
use Rattle.kc_conf.specs.PartsOfOutcome.{name_refusal, outcome_of, too_long_line}
use Rattle.kc_conf.specs.Computed.{Computes, refuses, value_lines}
use Rattle.kc_conf.specs.Endings.{Finishes, Refuses, line_if, status_if, texts_or}
use Rattle.kc_conf.specs.Faults.{refused_name, refused_name_of}
use Rattle.kc_conf.specs.LawSteps.{OneAnswer}
use Rattle.kc_conf.specs.Laws.{ExactlyOneOutcome}
use Rattle.kc_conf.specs.PartRuns.{IsLeft, Leaves, TellsRest}
use Rattle.kc_conf.specs.Reads.{ReadsInputs}
use Rattle.kc_conf.specs.RefusedNames.{refused_line}
use Rattle.kc_conf.specs.declared.accepted.OrderedTree.{OrderedTree}
use Rattle.kc_conf.specs.declared.names.RefusedName.{RefusedName}
use Rattle.kc_conf.specs.declared.names.RefusedName.TheVariants.{Unreadable, Unknown}
use Rattle.kc_conf.specs.declared.reading.Waiting.{Waiting}
use Rattle.kc_conf.specs.declared.stop.Stop.{Stop}
use Rattle.kc_conf.specs.declared.stop.Stop.TheVariants.{OutOfMemory}
use Rattle.kc_language.specs.declared.diagnostics.RunError.TheVariants as error
use Rattle.kc_outcome.specs.declared.outcome.Status.{Status}
use Rattle.kc_outcome.specs.declared.outcome.Status.TheVariants.{Refused}
use Rattle.kc_conf.proofs.EndingLemmas.{some-error}
use Rattle.kc_conf.proofs.OutcomeLemmas.{strictly_after-warned}
use Rattle.kc_conf.proofs.PartOutcomes.{Finishes-part, left-exists, left-name, left-rest, names-taken, part-has, part-says, part_by, rest-begins, rest-exists, rest-long, rest-whole}
use Rattle.kc_conf.proofs.ReadParts.{GoesOn, read-is, split-said, strict-holds, waits-held}
use Rattle.kc_conf.proofs.ReadParts as parts
use Rattle.kc_conf.proofs.RefusedNames.{lenient_refusal, refused_with}
use Rattle.kc_conf.proofs.RunParts.{Leaves-memory, Leaves-refused}

pub some-refused : (options : Options) (name : RefusedName) → lead options ++ refused_line name ≢ []
some-refused options (Unreadable name) e = some-error (lead options) (error.UnreadableName (first_line name.now)) e
some-refused options (Unknown asked near) e = some-error (lead options) (error.UnknownName (first_line asked.now) near.items) e

module _ (law : OneAnswer) (outcomes : ExactlyOneOutcome) {files : Files} {options : Options} {accepted : OrderedTree} {before : TreeFacts → List ℕ} {told : List ℕ} (tells : TellsRest files options accepted before told) where
  abbrev tree : TreeFacts
  tree = accepted.laid.tree.now

  abbrev opened : List (List ℕ)
  opened = accepted.opened.now

  -- there was no memory
  pub Leaves-unread : {old new : Log} → Leads [] [] old new → Leaves files options before (IsLeft files options tree told) (Err OutOfMemory) old new
  Leaves-unread log = Leaves-memory files options before (IsLeft files options tree told) (left-exists law files options tree tells.accepts.tree outcomes told (before tree) tells.both) log

  -- a name is refused
  pub Leaves-name : (name : RefusedName) (result : Result Status Stop) (old new : Log) → name_refusal options opened tree ≡ Some (refused_line name) → Refuses (lead options ++ refused_line name) result old new →
      Leaves files options before (IsLeft files options tree told) result old new
  Leaves-name name result old new refuses said =
      let line = lead options ++ refused_line name in
      let (called, is) = refused_with options opened tree (refused_line name) refuses in
      Leaves-refused files options before (IsLeft files options tree told) line result old new (some-refused options name)
      (λ inputs log. refused_name called (record { tree = tree; accepted = tells.accepts.tree; opened = opened; are_opened = tells.accepts.opened; refuses = is }))
      (λ all. left-name law files options tree tells.accepts.tree opened tells.accepts.opened told all called (refused_outcome line) is
      (refused_outcome line, opened, lenient_refusal files options opened all tree tells.accepts.tree (refused_line name) refuses, tells.accepts.opened, refl)) said

  module _ (taken : refused_name_of options opened tree ≡ None) where
    abbrev part : Outcome → Outcome
    part rest = part_by options tree rest

    left-of : (all : List (List ℕ)) (rest : Outcome) → IsOutcomeOfReading files options opened tree (read_of options tree all) rest → IsLeft files options tree told all (reported (before tree) (part rest))
    left-of all rest of = left-rest law files options tree tells.accepts.tree opened tells.accepts.opened taken told (before tree) tells.both all rest of

    -- something is left after the tree's warnings
    pub left-goes : GoesOn files options before tree (IsLeft files options tree told)
    left-goes = record {
      accepted = tells.accepts.tree;
      lines = tells.lines;
      named = names-taken law files options tree tells.accepts.tree opened tells.accepts.opened taken;
      part_of = λ all.
          let (rest, of) = rest-exists law files options tree tells.accepts.tree opened tells.accepts.opened taken outcomes all in
          let (more, begins) = rest-begins files options opened tree (read_of options tree all) rest of in
          (part rest, left-of all rest of, (more, strictly_after-warned options (is_not_empty (lines_text tree.warnings)) rest ∙ begins));
    }

    module _ {input : UserInput} (fresh : input ≡ fresh_input options tree) {start old : Log} (h : Leads [] (before tree) start old) where
      -- a line is too long
      pub Leaves-long : (stop : StreamLocation) {after : UserInput} {waiting : Waiting} {mid : Log} (result : Result Status Stop) (new : Log) → ReadsInputs options tree (Some stop) input after waiting old mid →
          Finishes options (waiting.text.items ++ too_long_line stop) [] Refused result mid new → Leaves files options before (IsLeft files options tree told) result start new
      Leaves-long stop {after = after} result new r ends =
          parts.Leaves-long left-goes fresh h stop result new r
          (left-of (bytes_of r.inputs) (reported r.warned (refused_outcome (too_long_line stop)))
          (rest-long files options opened tree (read_of options tree (bytes_of r.inputs)) after r.warned stop (read-is fresh r))) ends

      -- all lines were read
      pub Leaves-whole : {after : UserInput} {waiting : Waiting} {mid : Log} (text : List ℕ) (given : Option (List NamedText)) (result : Result Status Stop) (new : Log) → ReadsInputs options tree None input after waiting old mid →
          waiting.holds ≡ holds_warnings options → Computes files options opened tree after waiting.text.items text given →
          Finishes options (text ++ line_if options given) (texts_or given) (status_if given) result mid new → Leaves files options before (IsLeft files options tree told) result start new
      Leaves-whole {after = after} {waiting = waiting} {mid = mid} text given result new r holds c ends =
          let was = is_not_empty (lines_text tree.warnings) in
          let values = value_lines options after c.solution in
          let rest : Outcome = reported r.warned (outcome_of files options opened after c.solution) in
          let text-is : text ≡ (if waiting.holds then r.warned else []) ++ values = c.adds ∙ ap (λ l. l ++ values) r.waits in
          let has = part-has files options opened after r.warned c.solution was text (λ on. text-is ∙ ap (λ l. l ++ values) (waits-held waiting.holds r.warned (holds ∙ strict-holds options on))) in
          parts.Leaves-ended left-goes fresh h text (part rest) result r
          (left-of (bytes_of r.inputs) rest (rest-whole files options opened tree (read_of options tree (bytes_of r.inputs)) after r.warned c.solution (read-is fresh r) c.solution_is))
          (ap (λ l. (if waiting.holds then [] else r.warned) ++ l) text-is ∙ split-said waiting.holds r.warned values ∙ sym (part-says files options opened after r.warned c.solution was))
          (Finishes-part options (part rest) given text result mid new
          (subst (λ (o : Option (List NamedText)). ((part rest).refusal ≡ line_if options o) × (texts_of options (part rest) ≡ texts_or o) × ((part rest).status ≡ status_if o)) (sym c.texts_are) has) ends)
