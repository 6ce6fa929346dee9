-- How a run ends, and what it leaves.
use Rattle.std.proofs.Common.{◌≡◌, ◌≢◌, ◌⊎◌, inl, inr, ℕ, Bool, true, false, not, List, [], ◌∷◌, ◌++◌, refl, sym, ap, subst, ◌∙◌, append_assoc, append-nil, Result, Ok, Err}
use Rattle.std.specs.Prelude.{◌||◌, is_ok}
use Rattle.kc_language.specs.Expansion.{Files, Refused}
use Rattle.kc_language.specs.Symbols.{TreeFacts}
use Rattle.kc_language.specs.Text.{BeginsWith}
use Rattle.kc_io.specs.Delivery.{NamedText, cleared_by, stale_lines, stale_texts, texts_of}
use Rattle.kc_io.specs.Inputs.{AreInputs, InputFile, bytes_of, still_told}
use Rattle.kc_io.specs.Log.{keeps_files, Event, Log, Leads}
use Rattle.kc_io.specs.declared.device.Action.TheVariants.{Open, Read}
use Rattle.kc_io.specs.declared.steps.Failure.{Failure}
use Rattle.kc_io.proofs.LogLemmas.{leads_nothing}
use Rattle.kc_outcome.specs.Outcome.{Options, IsAcceptedTree, IsOutcome, IsRefusedTree, Outcome, refusal_line, refused_outcome, refused_tree, reported, root_file}
use Rattle.kc_read.specs.OpenedFiles.{OpenedAreOneList}
use Rattle.kc_read.specs.RefusalView.{refusal_view}
use Rattle.kc_read.specs.declared.refusal.Refusal.{Refusal}
use Rattle.kc_conf.specs.Accepted.{IsRefusalOf}
use Rattle.kc_conf.specs.Faults.{AreFirstReads, AreLines, AreReads, Breaks, Broken, Completes, NamesAreTaken, Runs, clearing, diagnostics_of, event_of, in_delivery, in_diagnostics, in_input, no_memory, nothing, of_accepted}
use Rattle.kc_conf.specs.Faults as ends
use Rattle.kc_conf.specs.Endings.{Answers, EndStops, Ends, IsEnded, Refuses, RefusesTree}
use Rattle.kc_conf.specs.Endings as tail
use Rattle.kc_conf.specs.Laws.{ExactlyOneOutcome}
use Rattle.kc_conf.specs.Many.{IsPart, RunsTurn, ends_all}
use Rattle.kc_conf.specs.Many as many
use Rattle.kc_conf.specs.PartRuns.{EndsSo, Leaves}
use Rattle.kc_conf.specs.PartsOfFaults.{nothing_said, said_of_tree}
use Rattle.kc_conf.specs.Reads.{StopsInputs}
use Rattle.kc_conf.specs.Reads as reading_stops
use Rattle.kc_outcome.specs.declared.outcome.Delivery.{Delivery}
use Rattle.kc_outcome.specs.declared.outcome.Delivery.TheVariants.{Write, Replace, Check}
use Rattle.kc_outcome.specs.declared.outcome.Status.{Status}
use Rattle.kc_conf.specs.declared.stop.Stop.{Stop}
use Rattle.kc_conf.specs.declared.stop.Stop.TheVariants.{OutOfMemory, Failed}
use Rattle.kc_conf.proofs.EndingLemmas.{Ends-refused, IsOfFiles-beyond, IsOfFiles-left, IsOfFiles-made, cleared-report, some-refusal}
use Rattle.kc_conf.proofs.GivenLemmas.{AreInputs-recalled, AreReads-recalled, ReadsUpTo-recalled, first-of-reads, inputs-exist, keeps-are_reads}
use Rattle.kc_conf.proofs.PartLemmas.{AreLines-append, AreLines-nothing}
use Rattle.kc_conf.proofs.PartOutcomes.{texts-none}
use Rattle.kc_conf.proofs.TellingLemmas.{Leads-as, Leads-then, Recalls, Recalls-first, Recalls-later, Tells-recalled}

-- ---- a run that read, and then ended

module _ (before : TreeFacts → List ℕ) (files : Files) (options : Options) (inputs : List InputFile) (outcome : Outcome) (events : List Event) (said rest : List ℕ) (old mid new : Log)
    (are : AreReads files options inputs (still_told old new) events) (lines : AreLines said) (whole : said ++ rest ≡ diagnostics_of outcome) (h : Leads events said old mid) where
  keeps : keeps_files events ≡ true
  keeps = keeps-are_reads files options inputs (still_told old new) events are

  -- what is said in all
  whole-diagnostics : (more : List ℕ) → said ++ (rest ++ more) ≡ diagnostics_of outcome ++ more
  whole-diagnostics more = sym (append_assoc said rest more) ∙ ap (λ l. l ++ more) whole

  Completes-behind : (status : Status) → IsEnded options rest (texts_of options outcome) outcome.status mid new status → Completes files options inputs outcome old new status
  Completes-behind status e = record {
    events = events;
    are_reads = are;
    made = e.made;
    stale = e.stale;
    of_old = Tells-recalled _ (IsOfFiles-made options (texts_of options outcome) e.made e.stale) (Recalls-first keeps h e.log) e.of_old;
    log = Leads-as refl (whole-diagnostics (stale_lines options e.stale)) (Leads-then h e.log);
    status_is = e.status_is;
    only_checked = e.only_checked;
  }

  breaks-behind : {stop : Stop} {done : List Event} {front : List ℕ} → EndStops options rest (texts_of options outcome) (still_told mid new) stop done front → Leads (done ++ event_of stop ++ clearing options stop) front mid new →
      Breaks files options before inputs outcome (still_told old new) stop (events ++ done) (said ++ front)
  breaks-behind (tail.in_diagnostics f front report name are_lines beyond) w =
      in_diagnostics f (events ++ []) (said ++ front) report name (subst (AreFirstReads files options inputs) (sym (append-nil events)) (first-of-reads are)) (AreLines-append said front lines are_lines)
      (Tells-recalled _ (IsOfFiles-beyond options (texts_of options outcome) (diagnostics_of outcome) (said ++ front)) (Recalls-first keeps h w)
      (λ journal e.
      let (b, more, is) = beyond journal e in
      (b, more, sym (whole-diagnostics (stale_lines options (stale_texts options (texts_of options outcome) journal))) ∙ ap (λ l. said ++ l) is ∙ sym (append_assoc said front (b ∷ more)))))
  breaks-behind (tail.in_delivery f done tells) w =
      subst (λ l. Breaks files options before inputs outcome (still_told old new) (Failed f) (events ++ done) l) (sym whole)
      (in_delivery f events done are (Tells-recalled _ (IsOfFiles-left options (texts_of options outcome) done f) (Recalls-first keeps h w) tells))

  pub EndsSo-behind : (result : Result Status Stop) → Ends options rest (texts_of options outcome) outcome.status result mid new → EndsSo files options before inputs outcome result old new
  EndsSo-behind (Ok status) e = Completes-behind status e
  EndsSo-behind (Err stop) b = record {
    done = events ++ b.done;
    front = said ++ b.front;
    breaks = breaks-behind b.stops b.log;
    log = Leads-as (sym (append_assoc events (b.done ++ event_of stop) (clearing options stop)) ∙ ap (λ l. l ++ clearing options stop) (sym (append_assoc events b.done (event_of stop)))) refl (Leads-then h b.log);
  }

-- ---- reading that was broken off

-- no text was delivered
cleared-read : (by : Delivery) (f : Failure) → (f.action ≡ Open) ⊎ (f.action ≡ Read) → cleared_by by f.action ≡ []
cleared-read Write f e = refl
cleared-read Check f e = refl
cleared-read Replace f (inl e) = ap (cleared_by Replace) e
cleared-read Replace f (inr e) = ap (cleared_by Replace) e

module _ (files : Files) (options : Options) (before : TreeFacts → List ℕ) (tree : TreeFacts) (accepted : IsAcceptedTree files (root_file options) tree) (named : NamesAreTaken files options)
    (inputs : List InputFile) (part : Outcome) (warned : List ℕ) (begins : BeginsWith part.warned warned) (lines : AreLines (before tree)) {told later : Log} (r : Recalls told later) where
  -- what these bytes begin, behind what was said of the tree
  begins-behind : (front more : List ℕ) → warned ≡ front ++ more → before tree ++ part.warned ≡ (before tree ++ front) ++ (more ++ begins.0)
  begins-behind front more is = ap (λ l. before tree ++ l) (begins.1 ∙ ap (λ l. l ++ begins.0) is) ∙ simp append_assoc refl

  pub stops-reading : {stop : Stop} {done : List Event} {front : List ℕ} → StopsInputs told options tree inputs warned stop done front →
      Breaks files options before inputs (reported (before tree) part) later stop done (before tree ++ front) × (clearing options stop ≡ [])
  stops-reading (reading_stops.no_memory done left front split are_lines front_begins) = (
    no_memory done (before tree ++ front) (of_accepted tree done left accepted named split) (AreLines-append (before tree) front lines are_lines)
        (front_begins.0 ++ begins.0, begins-behind front front_begins.0 front_begins.1),
    refl,
  )
  stops-reading (reading_stops.in_diagnostics f done left front report name split are_lines (b, rest, is)) = (
    in_diagnostics f done (before tree ++ front) report name (of_accepted tree done left accepted named split) (AreLines-append (before tree) front lines are_lines)
        (λ journal e.
        let behind = part.refusal ++ stale_lines options (stale_texts options (texts_of options part) journal) in
        (b, (rest ++ begins.0) ++ behind, append_assoc (before tree ++ part.warned) part.refusal _ ∙ ap (λ l. l ++ behind) (begins-behind front (b ∷ rest) is) ∙ append_assoc (before tree ++ front) _ behind)),
    cleared-report options.delivery f.action report,
  )
  stops-reading (reading_stops.in_input f file done front which name up_to) =
      (in_input f tree file done front accepted named which name (ReadsUpTo-recalled r up_to), cleared-read options.delivery f which)

-- ---- a run that ends before anything is read

module _ (files : Files) (options : Options) (before : TreeFacts → List ℕ) (IsIt : List (List ℕ) → Outcome → Type 0) where
  -- a tree or a name is refused
  pub Leaves-refused : (line : List ℕ) (result : Result Status Stop) (old new : Log) → line ≢ [] → ((inputs : List InputFile) (log : Log) → AreReads files options inputs log []) →
      ((all : List (List ℕ)) → IsIt all (refused_outcome line)) → Refuses line result old new → Leaves files options before IsIt result old new
  Leaves-refused line result old new some reads_nothing is refuses =
      let (inputs, are) = inputs-exist (still_told old new) options in
      record {
        inputs = inputs;
        are_inputs = are;
        outcome = refused_outcome line;
        is_outcome = is (bytes_of inputs);
        ends = EndsSo-behind before files options inputs (refused_outcome line) [] [] line old old new (reads_nothing inputs (still_told old new)) AreLines-nothing refl (leads_nothing old) result
            (subst (λ (t : List NamedText). Ends options line t (refused_outcome line).status result old new) (sym (texts-none options)) (Ends-refused options line result old new some refuses));
      }

  -- there was no memory
  pub Leaves-memory : {old new : Log} → ((all : List (List ℕ)) → (outcome : Outcome) × IsIt all outcome) → Leads [] [] old new → Leaves files options before IsIt (Err OutOfMemory) old new
  Leaves-memory {old = old} {new = new} exists log =
      let (inputs, are) = inputs-exist (still_told old new) options in
      let (outcome, is) = exists (bytes_of inputs) in
      record {
        inputs = inputs;
        are_inputs = are;
        outcome = outcome;
        is_outcome = is;
        ends = record { done = []; front = []; breaks = no_memory [] [] nothing AreLines-nothing (outcome.warned, refl); log = log };
      }

pub Leaves-weaker : {files : Files} {options : Options} {before : TreeFacts → List ℕ} {IsIt IsThat : List (List ℕ) → Outcome → Type 0} {result : Result Status Stop} {old new : Log} →
    ((all : List (List ℕ)) (outcome : Outcome) → IsIt all outcome → IsThat all outcome) → Leaves files options before IsIt result old new → Leaves files options before IsThat result old new
Leaves-weaker weaker run = record { inputs = run.inputs; are_inputs = run.are_inputs; outcome = run.outcome; is_outcome = weaker (bytes_of run.inputs) run.outcome run.is_outcome; ends = run.ends }

-- a tree is refused, or there was no memory for it
pub Leaves-untreed : (files : Files) (options : Options) (IsIt : List (List ℕ) → Outcome → Type 0) → ((all : List (List ℕ)) → (outcome : Outcome) × IsIt all outcome) →
    ((r : Refused) → IsRefusedTree files (root_file options) r → (all : List (List ℕ)) → IsIt all (refused_outcome (refusal_line r))) → (r : Refusal) (result : Result Status Stop) (old new : Log) →
    IsRefusalOf files (root_file options) r → RefusesTree r result old new → Leaves files options said_of_tree IsIt result old new
Leaves-untreed files options IsIt exists refused r result old new why (inl (is, same)) = rw (is, same) (Leaves-memory files options said_of_tree IsIt exists (leads_nothing old))
Leaves-untreed files options IsIt exists refused r result old new why (inr (known, refuses)) =
    Leaves-refused files options said_of_tree IsIt (refusal_line (refusal_view r)) result old new (some-refusal (refusal_view r)) (λ inputs log. ends.refused_tree (refusal_view r) (why known))
    (refused (refusal_view r) (why known)) refuses

pub Leaves-tree : OpenedAreOneList → ExactlyOneOutcome → (files : Files) (options : Options) (r : Refusal) (result : Result Status Stop) (old new : Log) → IsRefusalOf files (root_file options) r →
    RefusesTree r result old new → Leaves files options said_of_tree (IsOutcome files options) result old new
Leaves-tree opens outcomes files options =
    let (opened, are, only) = opens files (root_file options) in
    Leaves-untreed files options (IsOutcome files options) (λ all. let (outcome, is, only) = outcomes files options all in (outcome, is))
    (λ r is all. (refused_outcome (refusal_line r), opened, refused_tree r is refl, are, refl))

-- ---- what a run answers

-- why it was broken off does not change when it is said
Breaks-recalled : {files : Files} {options : Options} {before : TreeFacts → List ℕ} {inputs : List InputFile} {outcome : Outcome} {told later : Log} {stop : Stop} {done : List Event} {front : List ℕ} → Recalls told later →
    Breaks files options before inputs outcome told stop done front → Breaks files options before inputs outcome later stop done front
Breaks-recalled r (no_memory done front first lines begins) = no_memory done front first lines begins
Breaks-recalled {options = options} {outcome = outcome} r (in_diagnostics f done front report name first lines beyond) =
    in_diagnostics f done front report name first lines (Tells-recalled _ (IsOfFiles-beyond options (texts_of options outcome) (diagnostics_of outcome) front) r beyond)
Breaks-recalled r (in_input f tree file done front accepted named which name up_to) = in_input f tree file done front accepted named which name (ReadsUpTo-recalled r up_to)
Breaks-recalled {options = options} {outcome = outcome} r (in_delivery f events done are tells) =
    in_delivery f events done (AreReads-recalled r are) (Tells-recalled _ (IsOfFiles-left options (texts_of options outcome) done f) r tells)

-- it was complete, or said why it was broken off
pub record Answered (files : Files) (options : Options) (before : TreeFacts → List ℕ) (IsIt : List (List ℕ) → Outcome → Type 0) (status : Status) (is_over : Bool) (old new : Log) : Type 0 where
  pub inputs : List InputFile
  pub are_inputs : AreInputs (still_told old new) options inputs
  pub outcome : Outcome
  pub is_outcome : IsIt (bytes_of inputs) outcome
  pub ends : (Completes files options inputs outcome old new status × (is_over ≡ false))
      ⊎ ((b : Broken files options before inputs outcome old new status) × (is_over ≡ (ends_all b.stop || not (is_ok b.report))))

pub answered : {files : Files} {options : Options} {before : TreeFacts → List ℕ} {IsIt : List (List ℕ) → Outcome → Type 0} (result : Result Status Stop) {status : Status} {is_over : Bool} {old mid new : Log} →
    Leaves files options before IsIt result old mid → Answers options result status is_over mid new → Answered files options before IsIt status is_over old new
answered {files = files} {options = options} {before = before} {IsIt = IsIt} (Ok ended) {is_over = is_over} {old = old} run (is, over, same) =
    rw (is, same) (record { inputs = run.inputs; are_inputs = run.are_inputs; outcome = run.outcome; is_outcome = run.is_outcome; ends = inl (run.ends, over) })
answered {options = options} (Err stop) run (faulted, is_told, over, (report, is_report, told_is, log)) = record {
  inputs = run.inputs;
  are_inputs = AreInputs-recalled (Recalls-later run.ends.log log) options run.inputs run.are_inputs;
  outcome = run.outcome;
  is_outcome = run.is_outcome;
  ends = inr (
    record {
      stop = stop;
      done = run.ends.done;
      front = run.ends.front;
      report = report;
      breaks = Breaks-recalled (Recalls-later run.ends.log log) run.ends.breaks;
      is_report = is_report;
      log = Leads-then run.ends.log log;
      status_is = faulted;
    },
    over ∙ ap (λ b. ends_all stop || not b) told_is,
  );
}

pub Runs-answered : (files : Files) (options : Options) (result : Result Status Stop) (status : Status) (is_over : Bool) (old mid new : Log) → Leaves files options said_of_tree (IsOutcome files options) result old mid →
    Answers options result status is_over mid new → Runs files options old new status
Runs-answered files options result status is_over old mid new run answers =
    let a : Answered files options said_of_tree (IsOutcome files options) status is_over old new = answered result run answers in
    record { inputs = a.inputs; are_inputs = a.are_inputs; outcome = a.outcome; is_outcome = a.is_outcome; ends = elim a.ends [ inl c ↦ inl c.0 | inr b ↦ inr b.0 ] }

pub RunsTurn-answered : (files : Files) (tree : TreeFacts) (options : Options) (result : Result Status Stop) (status : Status) (is_over : Bool) (old mid new : Log) → Leaves files options nothing_said (IsPart files tree options) result old mid →
    Answers options result status is_over mid new → RunsTurn files tree options old new status is_over
RunsTurn-answered files tree options result status is_over old mid new run answers =
    let a : Answered files options nothing_said (IsPart files tree options) status is_over old new = answered result run answers in
    record { inputs = a.inputs; are_inputs = a.are_inputs; part = a.outcome; is_part = a.is_outcome; ends = elim a.ends [ inl c ↦ many.whole c.0 c.1 | inr b ↦ many.broken b.0 b.1 ] }
