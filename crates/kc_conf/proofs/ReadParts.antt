-- What a run leaves of an accepted tree, by how its input files were read, whatever follows from them.
use Rattle.std.proofs.Common.{◌≡◌, ℕ, Bool, true, false, List, [], ◌++◌, refl, sym, ap, subst, ◌∙◌, append_assoc, append-nil, Option, None, Some, Result, Err}
use Rattle.std.specs.Prelude.{if◌then◌else◌, ◌||◌}
use Rattle.kc_language.specs.Expansion.{Files}
use Rattle.kc_language.specs.Symbols.{TreeFacts}
use Rattle.kc_language.specs.ConfigFile.{ReadResult, StreamLocation, UserInput, lines_of, reading}
use Rattle.kc_language.specs.Text.{BeginsWith}
use Rattle.kc_outcome.specs.Outcome.{IsAcceptedTree, Options, Outcome, fresh_input, input_names, reported, read_of, refused_outcome, root_file, streams}
use Rattle.kc_io.specs.Delivery.{NamedText, texts_of}
use Rattle.kc_io.specs.Inputs.{AreInputs, InputFile, ReadsTo, bytes_of, reads, still_told}
use Rattle.kc_io.specs.Log.{Event, Log, Leads}
use Rattle.kc_io.proofs.LogLemmas.{leads_nothing}
use Rattle.kc_options.specs.PartsOfOutcome.{holds_warnings}
use Rattle.kc_conf.specs.PartsOfOutcome.{too_long_line}
use Rattle.kc_conf.specs.Endings.{Finishes}
use Rattle.kc_conf.specs.Faults.{AreLines, NamesAreTaken, event_of, in_diagnostics, nothing, of_tree}
use Rattle.kc_conf.specs.PartRuns.{Leaves, SaysLines}
use Rattle.kc_conf.specs.Reads.{BreaksInputs, ReadsInputs, StopsInputs, ended_with, no_memory}
use Rattle.kc_conf.specs.declared.reading.Waiting.{Waiting}
use Rattle.kc_conf.specs.declared.stop.Stop.{Stop}
use Rattle.kc_conf.specs.declared.stop.Stop.TheVariants.{OutOfMemory, Failed}
use Rattle.kc_outcome.specs.declared.outcome.Status.{Status}
use Rattle.kc_outcome.specs.declared.outcome.Status.TheVariants.{Refused}
use Rattle.kc_conf.proofs.EndingLemmas.{Finishes-log, beyond-nothing, report-log}
use Rattle.kc_conf.proofs.GivenLemmas.{AreInputs-recalled, AreThere-recalled, inputs-exist, reads_to-front}
use Rattle.kc_conf.proofs.PartLemmas.{AreLines-append, AreLines-nothing, AreLines-reading}
use Rattle.kc_conf.proofs.PartOutcomes.{texts-none}
use Rattle.kc_conf.proofs.RunParts.{EndsSo-behind, Leaves-memory, stops-reading}
use Rattle.kc_conf.proofs.TellingLemmas.{Leads-as, Leads-then, Recalls-between, Recalls-first}

-- what was said and what waits is all that was warned of
pub split-said : (holds : Bool) (warned more : List ℕ) → (if holds then [] else warned) ++ ((if holds then warned else []) ++ more) ≡ warned ++ more
split-said true warned more = refl
split-said false warned more = refl

AreLines-said : (holds : Bool) (warned : List ℕ) → AreLines warned → AreLines (if holds then [] else warned)
AreLines-said true warned lines = AreLines-nothing
AreLines-said false warned lines = lines

AreLines-waits : (holds : Bool) (warned : List ℕ) → AreLines warned → AreLines (if holds then warned else [])
AreLines-waits true warned lines = lines
AreLines-waits false warned lines = AreLines-nothing

begins-said : (holds : Bool) (warned : List ℕ) → BeginsWith warned (if holds then [] else warned)
begins-said true warned = (warned, refl)
begins-said false warned = ([], sym (append-nil warned))

pub waits-held : (holds : Bool) (warned : List ℕ) → holds ≡ true → (if holds then warned else []) ≡ warned
waits-held true warned e = refl
waits-held false warned e = absurd (let clash : false ≡ true = e in cc)

pub strict-holds : (options : Options) → options.strict_tree ≡ true → holds_warnings options ≡ true
strict-holds options e = ap (λ b. options.strict || b) e ∙ by options.strict
  where
    by : (b : Bool) → (b || true) ≡ true
    by true = refl
    by false = refl

module _ {options : Options} {tree : TreeFacts} {stopped : Option StreamLocation} {before after : UserInput} {waiting : Waiting} {old new : Log} (fresh : before ≡ fresh_input options tree) (r : ReadsInputs options tree stopped before after waiting old new) where
  -- nothing was given before
  pub read-is : read_of options tree (bytes_of r.inputs) ≡ ended_with after r.warned stopped
  read-is = ap (λ (b : UserInput). reading tree options.prefix b (lines_of (streams (input_names options) (bytes_of r.inputs)))) (sym fresh) ∙ r.reading_is

  AreLines-warned : AreLines r.warned
  AreLines-warned = subst AreLines (ap (λ (x : ReadResult). x.warned) read-is) (AreLines-reading tree options.prefix (lines_of (streams (input_names options) (bytes_of r.inputs))) (fresh_input options tree))

  -- what waits behind the reading is whole lines
  pub AreLines-waiting : AreLines waiting.text.items
  AreLines-waiting = subst AreLines (sym r.waits) (AreLines-waits waiting.holds r.warned AreLines-warned)

-- A run goes on to the input files of this accepted tree: no name is refused, and for any bytes of these files something is left after the tree's warnings,
-- which begins with the warnings of reading.
pub record GoesOn (files : Files) (options : Options) (before : TreeFacts → List ℕ) (tree : TreeFacts) (IsIt : List (List ℕ) → Outcome → Type 0) : Type 0 where
  pub accepted : IsAcceptedTree files (root_file options) tree
  pub lines : AreLines (before tree)
  pub named : NamesAreTaken files options
  pub part_of : (all : List (List ℕ)) → (part : Outcome) × IsIt all (reported (before tree) part) × BeginsWith part.warned (read_of options tree all).warned

module _ {files : Files} {options : Options} {before : TreeFacts → List ℕ} {tree : TreeFacts} {IsIt : List (List ℕ) → Outcome → Type 0} (goes : GoesOn files options before tree IsIt) where
  -- the tree's warnings were not said
  pub Leaves-unsaid : {text : List ℕ} (stop : Stop) (old new : Log) → before tree ≡ text → SaysLines text (Err stop) old new → Leaves files options before IsIt (Err stop) old new
  Leaves-unsaid OutOfMemory old new is log = Leaves-memory files options before IsIt (λ all. let (part, it, begins) = goes.part_of all in (reported (before tree) part, it)) log
  Leaves-unsaid (Failed f) old new is (report, some, log) =
      let (inputs, are) = inputs-exist (still_told old new) options in
      let (part, it, begins) = goes.part_of (bytes_of inputs) in
      record {
        inputs = inputs;
        are_inputs = are;
        outcome = reported (before tree) part;
        is_outcome = it;
        ends = record {
          done = [];
          front = [];
          breaks = in_diagnostics f [] [] report.0 report.1 nothing AreLines-nothing (λ journal e. simp append_assoc (beyond-nothing (before tree) _ (λ e. some (sym is ∙ e))));
          log = report-log options (Failed f) report log;
        };
      }

  -- reading was broken off
  Leaves-stopped : (inputs : List InputFile) (stop : Stop) (done : List Event) (front : List ℕ) {start mid new : Log} → AreInputs (still_told mid new) options inputs →
      StopsInputs (still_told mid new) options tree inputs (read_of options tree (bytes_of inputs)).warned stop done front → Leads [] (before tree) start mid → Leads (done ++ event_of stop) front mid new →
      Leaves files options before IsIt (Err stop) start new
  Leaves-stopped inputs stop done front are stops h log =
      let (part, it, begins) = goes.part_of (bytes_of inputs) in
      let (breaks, clears) = stops-reading files options before tree goes.accepted goes.named inputs part (read_of options tree (bytes_of inputs)).warned begins goes.lines (Recalls-first refl h log) stops in
      record {
        inputs = inputs;
        are_inputs = AreInputs-recalled (Recalls-first refl h log) options inputs are;
        outcome = reported (before tree) part;
        is_outcome = it;
        ends = record {
          done = done;
          front = before tree ++ front;
          breaks = breaks;
          log = Leads-as (sym (append-nil (done ++ event_of stop)) ∙ ap (λ l. done ++ event_of stop ++ l) (sym clears)) refl (Leads-then h log);
        };
      }

  pub Leaves-nothing : {start now : Log} → Leads [] (before tree) start now → Leaves files options before IsIt (Err OutOfMemory) start now
  Leaves-nothing {now = now} h =
      let (inputs, are) = inputs-exist (still_told now now) options in
      Leaves-stopped inputs OutOfMemory [] [] are (no_memory [] (reads inputs) [] refl AreLines-nothing ((read_of options tree (bytes_of inputs)).warned, refl)) h (leads_nothing now)

  module _ {input : UserInput} (fresh : input ≡ fresh_input options tree) {start old : Log} (h : Leads [] (before tree) start old) where
    pub Leaves-broken : (stop : Stop) {new : Log} → BreaksInputs options tree stop input old new → Leaves files options before IsIt (Err stop) start new
    Leaves-broken stop {new = new} b =
        Leaves-stopped b.inputs stop b.done b.front b.are_inputs
        (subst (λ (i : UserInput). StopsInputs (still_told old new) options tree b.inputs (reading tree options.prefix i (lines_of (streams (input_names options) (bytes_of b.inputs)))).warned stop b.done b.front) fresh b.stops) h b.log

    -- there was no memory for what follows
    pub Leaves-uncomputed : {after : UserInput} {waiting : Waiting} {new : Log} → ReadsInputs options tree None input after waiting old new → Leaves files options before IsIt (Err OutOfMemory) start new
    Leaves-uncomputed {waiting = waiting} r =
        let said = if waiting.holds then [] else r.warned in
        let (left, split) = reads_to-front r.reads_to in
        Leaves-stopped r.inputs OutOfMemory r.events said r.are_inputs
        (no_memory r.events left said split (AreLines-said waiting.holds r.warned (AreLines-warned fresh r))
        (subst (λ (x : ReadResult). BeginsWith x.warned said) (sym (read-is fresh r)) (begins-said waiting.holds r.warned))) h (Leads-as (sym (append-nil r.events)) refl r.log)

    -- the files were read, and the run ended
    pub Leaves-ended : {stopped : Option StreamLocation} {after : UserInput} {waiting : Waiting} {mid new : Log} (waits : List ℕ) (part : Outcome) (result : Result Status Stop) →
        (r : ReadsInputs options tree stopped input after waiting old mid) → IsIt (bytes_of r.inputs) (reported (before tree) part) →
        (if waiting.holds then [] else r.warned) ++ waits ≡ part.warned → Finishes options (waits ++ part.refusal) (texts_of options part) part.status result mid new →
        Leaves files options before IsIt result start new
    Leaves-ended {waiting = waiting} {new = new} waits part result r it diagnostics f =
        let (b, t, w) = Finishes-log result f in
        let said = if waiting.holds then [] else r.warned in
        let front = before tree ++ said in
        record {
          inputs = r.inputs;
          are_inputs = AreInputs-recalled (Recalls-between refl h r.log w) options r.inputs r.are_inputs;
          outcome = reported (before tree) part;
          is_outcome = it;
          ends = EndsSo-behind before files options r.inputs (reported (before tree) part) r.events (front ++ f.front) f.rest start f.mid new
              (of_tree tree r.events goes.accepted goes.named (AreThere-recalled (Recalls-between refl h r.log w) r.inputs r.there)
              (subst (λ s. ReadsTo r.inputs s r.events) (sym (ap (λ (x : ReadResult). x.stopped) (read-is fresh r))) r.reads_to))
              (AreLines-append front f.front (AreLines-append (before tree) said goes.lines (AreLines-said waiting.holds r.warned (AreLines-warned fresh r))) f.lines)
              (append_assoc front f.front f.rest ∙ ap (λ l. front ++ l) f.whole ∙ sym (append_assoc front waits part.refusal)
              ∙ ap (λ l. l ++ part.refusal) (append_assoc (before tree) said waits ∙ ap (λ l. before tree ++ l) diagnostics))
              (Leads-as (append-nil r.events) refl (Leads-then (Leads-then h r.log) f.log)) result f.ends;
        }

    -- a line is too long
    pub Leaves-long : (stop : StreamLocation) {after : UserInput} {waiting : Waiting} {mid : Log} (result : Result Status Stop) (new : Log) → (r : ReadsInputs options tree (Some stop) input after waiting old mid) →
        IsIt (bytes_of r.inputs) (reported (before tree) (reported r.warned (refused_outcome (too_long_line stop)))) →
        Finishes options (waiting.text.items ++ too_long_line stop) [] Refused result mid new → Leaves files options before IsIt result start new
    Leaves-long stop {waiting = waiting} {mid = mid} result new r it ends =
        Leaves-ended waiting.text.items (reported r.warned (refused_outcome (too_long_line stop))) result r it
        (ap (λ l. (if waiting.holds then [] else r.warned) ++ l) (r.waits ∙ sym (append-nil (if waiting.holds then r.warned else []))) ∙ split-said waiting.holds r.warned [])
        (subst (λ (t : List NamedText). Finishes options (waiting.text.items ++ too_long_line stop) t Refused result mid new) (sym (texts-none options)) ends)
