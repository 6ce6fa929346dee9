-- Piece by piece: what warnings are said, and what waits.
use Rattle.std.proofs.Common.{◌≡◌, ℕ, Bool, true, false, List, [], ◌∷◌, ◌++◌, refl, sym, ap, subst, ◌∙◌, append_assoc, append-nil, Some, None, Result, Ok, Err, OnOk, IfErr, Vec, Global, length, arith}
use Rattle.std.specs.Prelude.{◌==◌}
use Rattle.std.specs.List.{after_last}
use Rattle.kc_language.specs.Lines.{is_line_feed}
use Rattle.kc_text.specs.PartsOfLines.{HoldsNoLineFeed}
use Rattle.kc_io.specs.Log.{Event, Log, Leads}
use Rattle.kc_language.specs.Lines.{is_whole_lines}
use Rattle.kc_io.specs.declared.device.Action.{Action}
use Rattle.kc_io.specs.declared.device.Action.TheVariants.{Report}
use Rattle.kc_input.specs.Feeding.{StreamPosition, to_come}
use Rattle.kc_input.specs.ReaderCalls.{AnswersEnd, AnswersFeed}
use Rattle.kc_input.specs.ReaderState.{ReaderState}
use Rattle.kc_language.specs.ConfigFile.{Line, ReadResult, UserInput, lines_from, reading}
use Rattle.kc_input.specs.Reading.{with_warnings}
use Rattle.kc_language.specs.Text.{BeginsWith, GoesBeyond}
use Rattle.kc_input.specs.WholeLines.{AddsWholeLines}
use Rattle.kc_input.specs.declared.fault.InputFault.{InputFault}
use Rattle.kc_input.specs.declared.fault.InputFault.TheVariants.{InputLineTooLong, Memory}
use Rattle.kc_conf.specs.Faults.{AreLines}
use Rattle.kc_conf.specs.Reads.{ended_with}
use Rattle.kc_conf.specs.ReadSteps.{BreaksEnd, BreaksPiece, EndsFile, FailsAt, OnlyHeldWaits, SaysWaiting, Stand, StopsWarnings, TakesPiece, Warns, held_back, said_now}
use Rattle.kc_conf.specs.Faults.{event_of}
use Rattle.kc_conf.specs.declared.reading.Waiting.{Waiting}
use Rattle.kc_conf.specs.declared.stop.Stop.{Stop}
use Rattle.kc_conf.specs.declared.stop.Stop.TheVariants.{OutOfMemory, Failed}
use Rattle.kc_conf.proofs.PartLemmas.{AreLines-append, AreLines-nothing}
use Rattle.kc_conf.proofs.SayLemmas.{AreLines-added, whole-of_lines}
use Rattle.kc_conf.proofs.TellingLemmas.{Leads-as, Leads-then}

-- ---- texts

pub with_warnings-both : (a b : List ℕ) (read : ReadResult) → with_warnings a (with_warnings b read) ≡ with_warnings (a ++ b) read
with_warnings-both a b read = ap (λ (w : List ℕ). let r : ReadResult = record { input = read.input; warned = w; stopped = read.stopped } in r) (sym (append_assoc a b read.warned))

pub said-both : (holds : Bool) (a b : List ℕ) → said_now holds a ++ said_now holds b ≡ said_now holds (a ++ b)
said-both true a b = refl
said-both false a b = refl

held-both : (holds : Bool) (a b : List ℕ) → held_back holds a ++ held_back holds b ≡ held_back holds (a ++ b)
held-both true a b = refl
held-both false a b = refl

pub said-nothing : (holds : Bool) → said_now holds [] ≡ []
said-nothing true = refl
said-nothing false = refl

held-nothing : (holds : Bool) → held_back holds [] ≡ []
held-nothing true = refl
held-nothing false = refl

-- ---- what is said and waits

-- nothing was warned of, and these events were done
pub warns-done : {events : List Event} (old new : Stand) → new.waiting ≡ old.waiting → Leads events [] old.log new.log → Warns [] events old new
warns-done old new same done = record {
  lines = AreLines-nothing;
  log = Leads-as refl (sym (said-nothing old.waiting.holds)) done;
  waits = ap (λ (w : Waiting). w.text.items) same ∙ sym (append-nil old.waiting.text.items) ∙ ap (λ t. old.waiting.text.items ++ t) (sym (held-nothing old.waiting.holds));
  holds = ap (λ (w : Waiting). w.holds) same;
}

-- warnings after warnings
pub warns-then : {a b : List ℕ} {es fs : List Event} {old mid new : Stand} → Warns a es old mid → Warns b fs mid new → Warns (a ++ b) (es ++ fs) old new
warns-then {a = a} {b = b} {old = old} {mid = mid} first second =
    let holds = old.waiting.holds in
    record {
      lines = AreLines-append a b first.lines second.lines;
      log = Leads-as refl (ap (λ h. said_now holds a ++ said_now h b) first.holds ∙ said-both holds a b) (Leads-then first.log second.log);
      waits = second.waits ∙ ap (λ t. t ++ held_back mid.waiting.holds b) first.waits
          ∙ append_assoc old.waiting.text.items (held_back holds a) (held_back mid.waiting.holds b)
          ∙ ap (λ h. old.waiting.text.items ++ (held_back holds a ++ held_back h b)) first.holds
          ∙ ap (λ t. old.waiting.text.items ++ t) (held-both holds a b);
      holds = second.holds ∙ first.holds;
    }

-- the same warnings and events, said otherwise
pub warns-as : {a b : List ℕ} {es fs : List Event} {old new : Stand} → a ≡ b → es ≡ fs → Warns a es old new → Warns b fs old new
warns-as {a = a} {fs = fs} {old = old} {new = new} same_text same_events warns = subst (λ w. Warns w fs old new) same_text (subst (λ events. Warns a events old new) same_events warns)

-- ---- warnings that broke off

-- behind warnings that were said, or wait
pub stops-after : (holds : Bool) (stop : Stop) (a front : List ℕ) (whole read : ReadResult) → AreLines a → whole ≡ with_warnings a read → StopsWarnings holds stop read.warned front →
    StopsWarnings holds stop whole.warned (said_now holds a ++ front)
stops-after true OutOfMemory a front whole read lines is none = none
stops-after true (Failed f) a front whole read lines is never = absurd never
stops-after false OutOfMemory a front whole read lines is (are, (rest, begins)) =
    (AreLines-append a front lines are, (rest, ap (λ (r : ReadResult). r.warned) is ∙ ap (λ w. a ++ w) begins ∙ sym (append_assoc a front rest)))
stops-after false (Failed f) a front whole read lines is (report, are, (b, rest, goes)) =
    (report, AreLines-append a front lines are, (b, rest, ap (λ (r : ReadResult). r.warned) is ∙ ap (λ w. a ++ w) goes ∙ sym (append_assoc a front (b ∷ rest))))

pub stops-behind-warns : (stop : Stop) (front : List ℕ) {warned : List ℕ} {events : List Event} {old new : Stand} {whole : ReadResult} → Warns warned events old new → (read : ReadResult) → whole ≡ with_warnings warned read →
    StopsWarnings new.waiting.holds stop read.warned front → StopsWarnings old.waiting.holds stop whole.warned (said_now old.waiting.holds warned ++ front)
stops-behind-warns stop front {warned = warned} {old = old} {whole = whole} warns read is stops =
    stops-after old.waiting.holds stop warned front whole read warns.lines is (subst (λ h. StopsWarnings h stop read.warned front) warns.holds stops)

-- there was no memory behind these warnings
stops-behind : (holds : Bool) (warned whole : List ℕ) → AreLines warned → BeginsWith whole warned → StopsWarnings holds OutOfMemory whole (said_now holds warned)
stops-behind true warned whole lines begins = refl
stops-behind false warned whole lines begins = (lines, begins)

-- the diagnostics did not take these warnings
stops-unsaid : (holds : Bool) (stop : Stop) (waits told warned whole : List ℕ) (old new : Log) → waits ≡ held_back holds waits → told ≡ waits ++ warned → BeginsWith whole warned →
    FailsAt Report [] stop old new → GoesBeyond (said_now holds told) [] → StopsWarnings holds stop whole []
stops-unsaid true stop waits told warned whole old new only is begins fails (b, rest, goes) = absurd cc
stops-unsaid false OutOfMemory waits told warned whole old new only is begins fails goes = absurd fails
stops-unsaid false (Failed f) waits told warned whole old new only is (more, begins) (action, name, log) (b, rest, goes) =
    let same : warned ≡ b ∷ rest = sym (is ∙ ap (λ t. t ++ warned) only) ∙ goes in
    ((action, name), AreLines-nothing, (b, rest ++ more, begins ∙ ap (λ t. t ++ more) same))

-- the event of what failed
pub fails-log : (action : Action) (name : List ℕ) (stop : Stop) (old new : Log) → FailsAt action name stop old new → Leads (event_of stop) [] old new
fails-log action name OutOfMemory old new fails = absurd fails
fails-log action name (Failed f) old new fails = fails.2

-- something waits, and is not held back
pub some-said : (holds : Bool) (waits : List ℕ) (count : ℕ) → count ≡ length waits → holds ≡ false → false ≡ (count == 0) → GoesBeyond (said_now holds waits) []
some-said true waits count counted free some = absurd cc
some-said false [] count counted free some = absurd (grind arith)
some-said false (b ∷ waits) count counted free some = (b, waits, refl)

-- what waited was said
said-warns : (warned : List ℕ) (told : Vec ℕ Global) (old new : Stand) → OnlyHeldWaits old.waiting → told.items ≡ old.waiting.text.items ++ warned →
    AddsWholeLines old.waiting.text.items told.items → SaysWaiting (Ok tt) (record { holds = old.waiting.holds; text = told }) new.waiting old.log new.log → Warns warned [] old new
said-warns warned told old new only is added says = record {
  lines = AreLines-added old.waiting.text.items told.items warned is added;
  log = Leads-as refl (now old.waiting.holds old.waiting.text.items told.items only is) says.said.0;
  waits = says.said.1 ∙ later old.waiting.holds old.waiting.text.items told.items only is;
  holds = says.holds;
}
  where
    now : (holds : Bool) (waits told : List ℕ) → waits ≡ held_back holds waits → told ≡ waits ++ warned → said_now holds told ≡ said_now holds warned
    now true waits told only is = refl
    now false waits told only is = is ∙ ap (λ t. t ++ warned) only

    later : (holds : Bool) (waits told : List ℕ) → waits ≡ held_back holds waits → told ≡ waits ++ warned → held_back holds told ≡ waits ++ held_back holds warned
    later true waits told only is = is
    later false waits told only is = sym (ap (λ t. t ++ []) only)

-- ---- a piece of a stream

module _ (reader : ReaderState) where
  -- what a piece that was fed warns of; what is warned of in all begins with it
  fed-warns : (piece : List ℕ) (result : Result (Unit {0}) InputFault) (next : ReaderState) (before after : UserInput) (told told_after : List ℕ) → reader.refusal ≡ None →
      AnswersFeed piece result reader next before after told told_after →
      (warned : List ℕ) × (told_after ≡ told ++ warned)
      × ((rest : List ℕ) (more : List Line) → BeginsWith (reading reader.tree reader.prefix before (to_come reader.name reader.position (piece ++ rest) more)).warned warned)
  fed-warns piece (Ok _) next before after told told_after none answers =
      let (warned, is, goes) = answers.ok in
      (warned, is, λ rest more. ((reading reader.tree reader.prefix after (to_come reader.name next.position rest more)).warned, ap (λ (r : ReadResult). r.warned) (goes rest more)))
  fed-warns piece (Err fault) next before after told told_after none answers =
      let refuses = answers.refused none in (
        refuses.warned,
        refuses.tells,
        λ rest more. (
          (reading reader.tree reader.prefix after (to_come reader.name next.position (refuses.left ++ rest) more)).warned,
          ap (λ p. (reading reader.tree reader.prefix before (to_come reader.name reader.position (p ++ rest) more)).warned) refuses.split
              ∙ ap (λ p. (reading reader.tree reader.prefix before (to_come reader.name reader.position p more)).warned) (append_assoc refuses.done refuses.left rest)
              ∙ ap (λ (r : ReadResult). r.warned) (refuses.goes (refuses.left ++ rest) more),
        ),
      )

  module _ (piece : List ℕ) (next : ReaderState) (told : Vec ℕ Global) (old new : Stand) (only : OnlyHeldWaits old.waiting) where
    -- it was taken
    pub takes-piece : AnswersFeed piece (Ok tt) reader next old.input new.input old.waiting.text.items told.items →
        SaysWaiting (Ok tt) (record { holds = old.waiting.holds; text = told }) new.waiting old.log new.log → new.file ≡ old.file → ((bytes : List ℕ) → HoldsNoLineFeed (after_last is_line_feed bytes)) → TakesPiece reader piece None next old new
    takes-piece answers says same_file waiting =
        let (warned, is, goes) = answers.ok in
        let (none, stands) = answers.stands in
        record {
          warned = warned;
          takes = goes;
          warns = said-warns warned told old new only is answers.lines says;
          still = λ _. record {
            same = stands ∙ ap (λ (p : StreamPosition). let r : ReaderState = record reader { position = p } in r) (sym (ap (λ (r : ReaderState). r.position) stands));
            fresh = ap (λ (r : ReaderState). r.refusal) stands ∙ none;
            waits = subst (λ (r : ReaderState). HoldsNoLineFeed r.position.pending) (sym stands) (waiting (reader.position.pending ++ piece));
          };
          same_file = same_file;
        }

    module _ (none : reader.refusal ≡ None) where
      -- a line of it is too long
      pub takes-long : (number : ℕ) → AnswersFeed piece (Err (InputLineTooLong number)) reader next old.input new.input old.waiting.text.items told.items →
          SaysWaiting (Ok tt) (record { holds = old.waiting.holds; text = told }) new.waiting old.log new.log → new.file ≡ old.file → TakesPiece reader piece (Some number) next old new
      takes-long number answers says same_file =
          let refuses = answers.refused none in
          let (is_number, full, more_comes, stops) = refuses.because in
          record {
            warned = refuses.warned;
            takes = λ rest more.
                ap (λ p. reading reader.tree reader.prefix old.input (to_come reader.name reader.position (p ++ rest) more)) refuses.split
                ∙ ap (λ p. reading reader.tree reader.prefix old.input (to_come reader.name reader.position p more)) (append_assoc refuses.done refuses.left rest)
                ∙ refuses.goes (refuses.left ++ rest) more
                ∙ ap (with_warnings refuses.warned) (stops rest more)
                ∙ ap (λ w. ended_with new.input w (Some (record { stream = reader.name; number = next.position.number }))) (append-nil refuses.warned)
                ∙ ap (λ n. ended_with new.input refuses.warned (Some (record { stream = reader.name; number = n }))) (sym is_number);
            warns = said-warns refuses.warned told old new only refuses.tells answers.lines says;
            still = λ none. absurd cc;
            same_file = same_file;
          }

      -- there was no memory
      pub breaks-memory : AnswersFeed piece (Err Memory) reader next old.input new.input old.waiting.text.items told.items →
          SaysWaiting (Ok tt) (record { holds = old.waiting.holds; text = told }) new.waiting old.log new.log → BreaksPiece reader piece OutOfMemory old new
      breaks-memory answers says =
          let (warned, is, begins) = fed-warns piece (Err Memory) next old.input new.input old.waiting.text.items told.items none answers in
          let warns = said-warns warned told old new only is answers.lines says in
          record {
            front = said_now old.waiting.holds warned;
            stops = λ rest more. stops-behind old.waiting.holds warned (reading reader.tree reader.prefix old.input (to_come reader.name reader.position (piece ++ rest) more)).warned
                warns.lines (begins rest more);
            log = warns.log;
          }

      -- the diagnostics failed
      pub breaks-unsaid : (result : Result (Unit {0}) InputFault) (stop : Stop) → AnswersFeed piece result reader next old.input new.input old.waiting.text.items told.items →
          SaysWaiting (Err stop) (record { holds = old.waiting.holds; text = told }) new.waiting old.log new.log → BreaksPiece reader piece stop old new
      breaks-unsaid result stop answers says =
          let (warned, is, begins) = fed-warns piece result next old.input new.input old.waiting.text.items told.items none answers in
          record {
            front = [];
            stops = λ rest more.
                stops-unsaid old.waiting.holds stop old.waiting.text.items told.items warned (reading reader.tree reader.prefix old.input (to_come reader.name reader.position (piece ++ rest) more)).warned
                old.log new.log only is (begins rest more) says.failed.0 says.failed.1;
            log = fails-log Report [] stop old.log new.log says.failed.0;
          }

  -- ---- the last line

  module _ (end next : ReaderState) (told : Vec ℕ Global) (old new : Stand) (only : OnlyHeldWaits old.waiting) where
    -- it was ended, and what it warns of was said
    pub ends-said : (result : Result (Unit {0}) Stop) → AnswersEnd end (Ok tt) reader next old.input new.input old.waiting.text.items told.items →
        SaysWaiting result (record { holds = old.waiting.holds; text = told }) new.waiting old.log new.log → OnOk result (EndsFile reader old new)
    ends-said (Ok _) answers says =
        let (warned, is, ends) = answers.ok in
        record { warned = warned; ends = ends; warns = said-warns warned told old new only is answers.lines says }
    ends-said (Err stop) answers says = tt

    -- or the diagnostics failed
    pub ends-unsaid : (result : Result (Unit {0}) Stop) → AnswersEnd end (Ok tt) reader next old.input new.input old.waiting.text.items told.items →
        SaysWaiting result (record { holds = old.waiting.holds; text = told }) new.waiting old.log new.log → IfErr result (λ stop. BreaksEnd reader stop old new)
    ends-unsaid (Ok _) answers says = tt
    ends-unsaid (Err stop) answers says =
        let (warned, is, ends) = answers.ok in
        record {
          front = [];
          stops = λ more.
              stops-unsaid old.waiting.holds stop old.waiting.text.items told.items warned
              (reading reader.tree reader.prefix old.input (lines_from reader.name reader.position.number reader.position.pending ++ more)).warned old.log new.log only is
              ((reading reader.tree reader.prefix new.input more).warned, ap (λ (r : ReadResult). r.warned) (ends more)) says.failed.0 says.failed.1;
          log = fails-log Report [] stop old.log new.log says.failed.0;
        }

-- what waits is whole lines, unless warnings are held back
pub whole-fed : (waiting : Waiting) (told : Vec ℕ Global) → OnlyHeldWaits waiting → AddsWholeLines waiting.text.items told.items → waiting.holds ≡ false → is_whole_lines told.items ≡ true
whole-fed waiting told only (added, is, whole) free =
    let none : waiting.text.items ≡ [] = only ∙ ap (λ h. held_back h waiting.text.items) free in
    whole-of_lines told.items (AreLines-added [] told.items told.items refl (added, is ∙ ap (λ t. t ++ added) none, whole))
