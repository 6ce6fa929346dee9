-- How a run ends behind its reading.
use Rattle.std.proofs.lemmas.List.Elements.{filter-append}
use Rattle.std.proofs.lemmas.Grind.{flat_map-append}
use Rattle.std.proofs.Common.{◌≡◌, ◌≢◌, inl, inr, ℕ, Bool, true, false, List, [], ◌∷◌, ◌++◌, refl, sym, ap, subst, ◌∙◌, append_assoc, append-nil, codes, decimal, Option, None, Some, Result, Ok, Err}
use Rattle.std.specs.Prelude.{if◌then◌else◌, not, filter, bytes_eq}
use Rattle.std.specs.Option.{option_map_or}
use Rattle.std.specs.List.{flat_map}
use Rattle.kc_language.specs.Text.{GoesBeyond}
use Rattle.kc_language.specs.ConfigFile.{StreamLocation}
use Rattle.kc_language.specs.Expansion.{Refused as RefusedTree}
use Rattle.kc_io.specs.Delivered.{Delivered, cleared, failure_of}
use Rattle.kc_io.specs.Delivery.{StopsBefore, NamedText, chosen, cleared_by, delivers, delivery, moved, put, share_name, stale, stale_lines, stale_texts, status_with}
use Rattle.kc_io.specs.Inputs.{still_told}
use Rattle.kc_io.specs.Log.{Event, Journal, Log, Leads, Tells, did, each_byte, held, is_held}
use Rattle.kc_io.specs.declared.delivery.Manner.{Manner}
use Rattle.kc_io.specs.declared.delivery.Manner.TheVariants.{InPlace, Replacing}
use Rattle.kc_io.specs.declared.device.Action.{Action}
use Rattle.kc_io.specs.declared.device.Action.TheVariants.{Create, Close, Clear, Report, Write as WriteAt}
use Rattle.kc_io.specs.declared.device.Site.TheVariants.{Beside}
use Rattle.kc_io.specs.declared.steps.Failure.{Failure}
use Rattle.kc_io.proofs.LogLemmas.{leads_nothing}
use Rattle.kc_outcome.specs.Outcome.{Options, lead, refusal_line}
use Rattle.kc_language.specs.Statements.{run_error_text}
use Rattle.kc_language.specs.declared.diagnostics.RunError.{RunError}
use Rattle.kc_language.specs.declared.diagnostics.RunError.TheVariants.{NotUpToDate}
use Rattle.kc_language.specs.Statements.{cause_text, error_at, error_line}
use Rattle.kc_conf.specs.PartsOfOutcome.{error_if_at, stale_line, too_long_line}
use Rattle.kc_conf.specs.Faults.{AreLines, clearing, event_of}
use Rattle.kc_conf.specs.Endings.{BreaksEnd, Ends, Finishes, HandsBy, IsChecked, Refuses, in_delivery, in_diagnostics}
use Rattle.kc_conf.specs.PartsOfFaults.{delivered_by, stale_by}
use Rattle.kc_conf.specs.Reads.{IsReportStop}
use Rattle.kc_outcome.specs.declared.outcome.Delivery.{Delivery}
use Rattle.kc_outcome.specs.declared.outcome.Delivery.TheVariants.{Write, Replace, Check}
use Rattle.kc_outcome.specs.declared.outcome.Status.{Status}
use Rattle.kc_outcome.specs.declared.outcome.Status.TheVariants.{Done, Refused}
use Rattle.kc_conf.specs.declared.stop.Stop.{Stop}
use Rattle.kc_conf.specs.declared.stop.Stop.TheVariants.{OutOfMemory, Failed}
use Rattle.kc_conf.proofs.PartLemmas.{AreLines-append, AreLines-nothing}
use Rattle.kc_conf.proofs.TellingLemmas.{IsOfFiles, Leads-as, Leads-silent, Leads-then, Recalls-first, Tells-later, Tells-recalled, Tells-still, still-known}

-- ---- text that is not empty

pub some-behind : (a : List ℕ) (b : ℕ) (rest : List ℕ) → a ++ b ∷ rest ≢ []
some-behind [] b rest e = cc
some-behind (x ∷ a) b rest e = cc

pub some-before : (a b : List ℕ) → a ≢ [] → a ++ b ≢ []
some-before [] b some e = some refl
some-before (x ∷ a) b some e = cc

pub some-after : (a b : List ℕ) → b ≢ [] → a ++ b ≢ []
some-after a [] some e = some refl
some-after a (x ∷ b) some e = some-behind a x b e

pub beyond-nothing : (text more : List ℕ) → text ≢ [] → GoesBeyond (text ++ more) []
beyond-nothing [] more some = absurd (some refl)
beyond-nothing (b ∷ rest) more some = (b, rest ++ more, refl)

-- an error line, behind any lead
pub some-error : (front : List ℕ) (error : RunError (List ℕ)) → front ++ error_line (run_error_text error) ≢ []
some-error front error e = some-after front (error_line (run_error_text error)) (λ e. cc) e

some-at : (file : List ℕ) (number : ℕ) (text : List ℕ) → error_at file number text ≢ []
some-at file number text e = some-after (file ++ codes ":" ++ decimal number ++ codes ": error " ++ text) (codes "\n") (λ e. cc) e

pub some-too_long : (stop : StreamLocation) → too_long_line stop ≢ []
some-too_long stop e = some-at stop.stream stop.number _ e

pub some-refusal : (r : RefusedTree) → refusal_line r ≢ []
some-refusal r e = by r.location e
  where
    text : List ℕ
    text = cause_text r.cause

    by : (place : Option (List ℕ × ℕ)) → error_if_at place text ≢ []
    by None e = cc
    by (Some place) e = some-at place.0 place.1 text e

-- ---- nothing is delivered

delivers-nothing : (by : Delivery) (journal : Journal) → delivered_by by [] journal ≡ []
delivers-nothing Write journal = refl
delivers-nothing Replace journal = refl
delivers-nothing Check journal = refl

stale-nothing : (by : Delivery) (journal : Journal) → stale_by by [] journal ≡ []
stale-nothing Write journal = refl
stale-nothing Replace journal = refl
stale-nothing Check journal = refl

-- what failed was no delivery
pub cleared-report : (by : Delivery) (action : Action) → action ≡ Report → cleared_by by action ≡ []
cleared-report Write action e = refl
cleared-report Replace action e = ap (cleared_by Replace) e
cleared-report Check action e = refl

-- ---- what is refused

-- the events of diagnostics that failed
pub report-log : (options : Options) (stop : Stop) {old new : Log} → IsReportStop stop → Leads (event_of stop) [] old new → Leads ([] ++ event_of stop ++ clearing options stop) [] old new
report-log options OutOfMemory never log = absurd never
report-log options (Failed f) (report, name) log =
    Leads-as (sym (append-nil (event_of (Failed f))) ∙ ap (λ l. event_of (Failed f) ++ l) (sym (cleared-report options.delivery f.action report))) refl log

-- the diagnostics failed before anything was said
pub BreaksEnd-report : (options : Options) (rest : List ℕ) (texts : List NamedText) (stop : Stop) {old new : Log} → rest ≢ [] → IsReportStop stop → Leads (event_of stop) [] old new → BreaksEnd options rest texts stop old new
BreaksEnd-report options rest texts OutOfMemory some never log = absurd never
BreaksEnd-report options rest texts (Failed f) some (report, name) log = record {
  done = [];
  front = [];
  stops = in_diagnostics f [] report name AreLines-nothing (λ journal e. beyond-nothing rest (stale_lines options (stale_texts options texts journal)) some);
  log = report-log options (Failed f) (report, name) log;
}

-- a line was said, and that refuses
pub Ends-refused : (options : Options) (line : List ℕ) (result : Result Status Stop) (old new : Log) → line ≢ [] → Refuses line result old new → Ends options line [] Refused result old new
Ends-refused options line (Ok status) old new some (is, log) = record {
  made = [];
  stale = [];
  of_old = λ journal e. (sym (delivers-nothing options.delivery journal), sym (stale-nothing options.delivery journal));
  log = Leads-as refl (sym (append-nil line)) log;
  status_is = is;
  only_checked = inl refl;
}
Ends-refused options line (Err stop) old new some (report, log) = BreaksEnd-report options line [] stop some report log

-- ---- what files hold

pub stale-held : (texts : List NamedText) (j k : Journal) → ((name : List ℕ) → held j name ≡ held k name) → stale texts j ≡ stale texts k
stale-held texts j k same = λ i. filter (λ text. not (option_map_or (λ found. bytes_eq found text.bytes) (same text.name i) false)) texts

pub stale-same : (by : Delivery) (texts : List NamedText) (j k : Journal) → ((name : List ℕ) → held j name ≡ held k name) → stale_by by texts j ≡ stale_by by texts k
stale-same Write texts j k same = refl
stale-same Replace texts j k same = refl
stale-same Check texts j k same = stale-held texts j k same

pub delivers-same : (by : Delivery) (texts : List NamedText) (j k : Journal) → ((name : List ℕ) → held j name ≡ held k name) → delivered_by by texts j ≡ delivered_by by texts k
delivers-same Write texts j k same = refl
delivers-same Replace texts j k same = ap (λ s. delivery Replacing (if share_name texts then texts else s)) (stale-held texts j k same)
delivers-same Check texts j k same = refl

module _ (options : Options) (texts : List NamedText) where
  pub IsOfFiles-made : (made : List Event) (stale : List NamedText) → IsOfFiles (λ journal. (made ≡ delivers options texts journal) × (stale ≡ stale_texts options texts journal))
  IsOfFiles-made made stale j k same (is, are) = (is ∙ delivers-same options.delivery texts j k same, are ∙ stale-same options.delivery texts j k same)

  pub IsOfFiles-left : (done : List Event) (f : Failure) → IsOfFiles (λ journal. (left : List Event) × (done ++ left ≡ delivers options texts journal) × StopsBefore left (Err f))
  IsOfFiles-left done f j k same (left, is, stops) = (left, is ∙ delivers-same options.delivery texts j k same, stops)

  pub IsOfFiles-beyond : (text front : List ℕ) → IsOfFiles (λ journal. GoesBeyond (text ++ stale_lines options (stale_texts options texts journal)) front)
  IsOfFiles-beyond text front j k same goes = subst (λ (s : List NamedText). GoesBeyond (text ++ stale_lines options s) front) (stale-same options.delivery texts j k same) goes

-- ---- what waits is said first

module _ (options : Options) (waits line : List ℕ) (texts : List NamedText) (ended : Status) {result : Result Status Stop} {old mid new : Log} where
  pub Finishes-said : AreLines waits → Leads [] waits old mid → Ends options line texts ended result mid new → Finishes options (waits ++ line) texts ended result old new
  Finishes-said lines log ends = record { front = waits; rest = line; mid = mid; whole = refl; lines = lines; log = log; ends = ends }

-- or not
pub Finishes-unsaid : (options : Options) (waits line : List ℕ) (texts : List NamedText) (ended : Status) (stop : Stop) {old new : Log} → IsReportStop stop × (waits ≢ []) × Leads (event_of stop) [] old new →
    Finishes options (waits ++ line) texts ended (Err stop) old new
Finishes-unsaid options waits line texts ended stop {old = old} (report, some, log) = record {
  front = [];
  rest = waits ++ line;
  mid = old;
  whole = refl;
  lines = AreLines-nothing;
  log = leads_nothing old;
  ends = BreaksEnd-report options (waits ++ line) texts stop (some-before waits line some) report log;
}

-- ---- texts that are delivered

-- each of these events is of a replacement, behind whose failure what stands beside places is removed
abbrev Clears : List Event → Type 0
Clears [] = Unit {0}
Clears (event ∷ events) = (cleared_by Replace event.action ≡ did Clear []) × Clears events

Clears-append : (a b : List Event) → Clears a → Clears b → Clears (a ++ b)
Clears-append [] b p q = q
Clears-append (event ∷ a) b p q = (p.0, Clears-append a b p.1 q)

Clears-at : (a : List Event) (event : Event) (b : List Event) → Clears (a ++ event ∷ b) → cleared_by Replace event.action ≡ did Clear []
Clears-at [] event b p = p.0
Clears-at (first ∷ a) event b p = Clears-at a event b p.1

Clears-bytes : (name bytes : List ℕ) → Clears (each_byte (WriteAt Beside) name bytes)
Clears-bytes name [] = tt
Clears-bytes name (b ∷ bytes) = (refl, Clears-bytes name bytes)

Clears-puts : (texts : List NamedText) → Clears (flat_map (put Beside) texts)
Clears-puts [] = tt
Clears-puts (text ∷ texts) =
    Clears-append (put Beside text) (flat_map (put Beside) texts)
    (Clears-append (did (Create Beside) text.name ++ each_byte (WriteAt Beside) text.name text.bytes) (did (Close Beside) text.name)
    (Clears-append (did (Create Beside) text.name) (each_byte (WriteAt Beside) text.name text.bytes) (refl, tt) (Clears-bytes text.name text.bytes)) (refl, tt))
    (Clears-puts texts)

Clears-moves : (texts : List NamedText) → Clears (flat_map moved texts)
Clears-moves [] = tt
Clears-moves (text ∷ texts) = (refl, Clears-moves texts)

Clears-replacing : (texts : List NamedText) → Clears (delivery Replacing texts)
Clears-replacing texts = Clears-append (flat_map (put Beside) texts) (flat_map moved texts) (Clears-puts texts) (Clears-moves texts)

-- so behind a failure of a delivery that is told
clears-failed : (done left : List Event) (texts : List NamedText) (f : Failure) → done ++ left ≡ delivery Replacing texts → StopsBefore left (Err f) → cleared_by Replace f.action ≡ did Clear []
clears-failed done [] texts f all stops = absurd stops
clears-failed done (event ∷ left) texts f all stops =
    ap (cleared_by Replace) (sym stops.0) ∙ Clears-at done event left (subst Clears (sym all) (Clears-replacing texts))

-- how this manner delivers is how the options deliver
record IsManner (options : Options) (texts : List NamedText) (manner : Manner) : Type 0 where
  delivers : (journal : Journal) → delivery manner (chosen manner texts journal) ≡ delivers options texts journal
  none : (journal : Journal) → [] ≡ stale_texts options texts journal
  clears : (f : Failure) (done left : List Event) (journal : Journal) → done ++ left ≡ delivery manner (chosen manner texts journal) → StopsBefore left (Err f) → cleared manner (Err f) ≡ clearing options (Failed f)

whole-delivery : (done left : List Event) {all : List Event} → StopsBefore left (Ok tt) → done ++ left ≡ all → done ≡ all
whole-delivery done [] stops e = sym (append-nil done) ∙ e
whole-delivery done (event ∷ left) stops e = absurd stops

Ends-handed : (options : Options) (texts : List NamedText) (manner : Manner) (old new : Log) → IsManner options texts manner → (result : Result Status Stop) → HandsBy manner texts old new result →
    Ends options [] texts Done result old new
Ends-handed options texts manner old new by (Ok status) (is, d) = record {
  made = d.done;
  stale = [];
  of_old = Tells-still _ old new (λ journal after e e'. (whole-delivery d.done d.left d.stops (d.all journal e) ∙ by.delivers journal, by.none journal));
  log = Leads-as (append-nil (d.done ++ []) ∙ append-nil d.done) refl d.log;
  status_is = is;
  only_checked = inl refl;
}
Ends-handed options texts manner old new by (Err OutOfMemory) d = absurd d
Ends-handed options texts manner old new by (Err (Failed f)) d = record {
  done = d.done;
  front = [];
  stops = in_delivery f d.done (Tells-still _ old new (λ journal after e e'. (d.left, d.all journal e ∙ by.delivers journal, d.stops)));
  log = cleared-log new d;
}
  where
    cleared-log : (new : Log) (d : Delivered manner texts old new (Err f)) → Leads (d.done ++ event_of (Failed f) ++ clearing options (Failed f)) [] old new
    cleared-log None d = Leads-silent (d.done ++ event_of (Failed f) ++ clearing options (Failed f)) [] old
    cleared-log (Some after) d =
        let o = d.log.told after refl in Leads-as (ap (λ l. d.done ++ failure_of (Err f) ++ l) (by.clears f d.done d.left o.0 (d.all o.0 o.1) d.stops)) refl d.log

-- texts that are written
pub Ends-written : (options : Options) (texts : List NamedText) (old new : Log) (result : Result Status Stop) → options.delivery ≡ Write → HandsBy InPlace texts old new result → Ends options [] texts Done result old new
Ends-written options texts old new result write d =
    Ends-handed options texts InPlace old new (record {
      delivers = λ journal. ap (λ by. delivered_by by texts journal) (sym write);
      none = λ journal. ap (λ by. stale_by by texts journal) (sym write);
      clears = λ f done left journal all stops. ap (λ by. cleared_by by f.action) (sym write);
    }) result d

-- texts that take their places at the end
pub Ends-replaced : (options : Options) (texts : List NamedText) (old new : Log) (result : Result Status Stop) → options.delivery ≡ Replace → HandsBy Replacing texts old new result → Ends options [] texts Done result old new
Ends-replaced options texts old new result replace d =
    Ends-handed options texts Replacing old new (record {
      delivers = λ journal. ap (λ by. delivered_by by texts journal) (sym replace);
      none = λ journal. ap (λ by. stale_by by texts journal) (sym replace);
      clears = λ f done left journal all stops. sym (clears-failed done left (chosen Replacing texts journal) f all stops) ∙ ap (λ by. cleared_by by f.action) (sym replace);
    }) result d

-- ---- texts that are compared

stale-append : (a b : List NamedText) (journal : Journal) → stale (a ++ b) journal ≡ stale a journal ++ stale b journal
stale-append a b journal = filter-append (λ (text : NamedText). not (is_held journal text.name text.bytes)) a b

stale-fresh : (text : NamedText) (journal : Journal) → true ≡ is_held journal text.name text.bytes → stale (text ∷ []) journal ≡ []
stale-fresh text journal e = ap (λ b. if not b then text ∷ [] else []) (sym e)

stale-old : (text : NamedText) (texts : List NamedText) (journal : Journal) → false ≡ is_held journal text.name text.bytes → stale (text ∷ texts) journal ≡ text ∷ stale texts journal
stale-old text texts journal e = ap (λ b. if not b then text ∷ stale texts journal else stale texts journal) (sym e)

AreLines-stale : (options : Options) (texts : List NamedText) → AreLines (stale_lines options texts)
AreLines-stale options [] = AreLines-nothing
AreLines-stale options (text ∷ texts) =
    AreLines-append (lead options ++ stale_line text.name) (stale_lines options texts) (
      (lead options ++ (codes "error E22: " ++ text.name ++ codes " is not up to date")) ∷ [],
      simp append_assoc refl,
    )
    (AreLines-stale options texts)

-- what a device tells now, of what it told at first
Tells-now : {old mid : Log} {text : List ℕ} (P : Journal → Type 0) → IsOfFiles P → Leads [] text old mid → Tells mid P → Tells (still_told old mid) P
Tells-now {mid = mid} P of_files h tells = Tells-recalled P of_files (Recalls-first refl h (leads_nothing mid)) (λ journal e. tells journal (still-known mid mid journal e).0)

status-more : (found : List NamedText) (text : NamedText) → status_with (found ++ text ∷ []) Done ≡ Refused
status-more [] text = refl
status-more (first ∷ found) text = refl

module _ (options : Options) (old mid : Log) (front : List NamedText) (status : Status) (so_far : IsChecked options front old mid status) (text : NamedText) where
  same-held : (b : Bool) → IsOfFiles (λ journal. b ≡ is_held journal text.name text.bytes)
  same-held b j k same e = e ∙ ap (λ found. option_map_or (λ held_bytes. bytes_eq held_bytes text.bytes) found false) (same text.name)

  -- a file that holds its text
  pub IsChecked-fresh : Tells mid (λ journal. true ≡ is_held journal text.name text.bytes) → IsChecked options (front ++ text ∷ []) old mid status
  IsChecked-fresh fresh = record {
    found = so_far.found;
    of_old = λ journal e.
        so_far.of_old journal e ∙ sym (append-nil (stale front journal)) ∙ ap (λ l. stale front journal ++ l) (sym (stale-fresh text journal (Tells-now _ (same-held true) so_far.log fresh journal e)))
        ∙ sym (stale-append front (text ∷ []) journal);
    log = so_far.log;
    status_is = so_far.status_is;
  }

  module _ (is_old : Tells mid (λ journal. false ≡ is_held journal text.name text.bytes)) where
    -- what is stale in all
    found-old : (behind : List NamedText) → Tells (still_told old mid) (λ journal. stale (front ++ text ∷ behind) journal ≡ so_far.found ++ text ∷ stale behind journal)
    found-old behind = λ journal e.
        stale-append front (text ∷ behind) journal ∙ ap (λ l. stale front journal ++ l) (stale-old text behind journal (Tells-now _ (same-held false) so_far.log is_old journal e))
        ∙ ap (λ l. l ++ text ∷ stale behind journal) (sym (so_far.of_old journal e))

    -- one that does not, which is told
    pub IsChecked-old : (new : Log) → Leads [] (lead options ++ stale_line text.name) mid new → IsChecked options (front ++ text ∷ []) old new Refused
    IsChecked-old new said = record {
      found = so_far.found ++ text ∷ [];
      of_old = Tells-later _ old said (λ journal e. sym (found-old [] journal e));
      log = Leads-as refl
          (ap (λ l. stale_lines options so_far.found ++ l) (sym (append-nil (lead options ++ stale_line text.name)))
          ∙ sym (flat_map-append (λ (t : NamedText). lead options ++ stale_line t.name) so_far.found (text ∷ [])))
          (Leads-then so_far.log said);
      status_is = sym (status-more so_far.found text);
    }

    -- or cannot be told
    pub BreaksEnd-old : options.delivery ≡ Check → (behind : List NamedText) (stop : Stop) (new : Log) → IsReportStop stop → Leads (event_of stop) [] mid new → BreaksEnd options [] (front ++ text ∷ behind) stop old new
    BreaksEnd-old checks behind OutOfMemory new never said = absurd never
    BreaksEnd-old checks behind (Failed f) new (report, name) said = record {
      done = [];
      front = stale_lines options so_far.found;
      stops = in_diagnostics f (stale_lines options so_far.found) report name (AreLines-stale options so_far.found)
          (Tells-later _ old said (λ journal e.
          let (b, rest, is) = beyond-nothing (lead options ++ stale_line text.name) (stale_lines options (stale behind journal)) (some-error (lead options) (NotUpToDate text.name)) in (
            b,
            rest,
            ap (λ (by : Delivery). stale_lines options (stale_by by (front ++ text ∷ behind) journal)) checks
                ∙ ap (stale_lines options) (found-old behind journal e)
                ∙ flat_map-append (λ (t : NamedText). lead options ++ stale_line t.name) so_far.found (text ∷ stale behind journal)
                ∙ ap (λ l. stale_lines options so_far.found ++ l) is,
          )));
      log = Leads-as refl (append-nil (stale_lines options so_far.found)) (Leads-then so_far.log (report-log options (Failed f) (report, name) said));
    }

-- what the end of a run did and said
pub Finishes-log : {options : Options} {diagnostics : List ℕ} {texts : List NamedText} {ended : Status} (result : Result Status Stop) {old new : Log} → Finishes options diagnostics texts ended result old new →
    (events : List Event) × (text : List ℕ) × Leads events text old new
Finishes-log (Ok status) f = (_, _, Leads-then f.log f.ends.log)
Finishes-log (Err stop) f = (_, _, Leads-then f.log f.ends.log)
