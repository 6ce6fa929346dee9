-- Trusted: How a run ends after reading.
use Rattle.std.specs.Prelude.{◌≡◌, ◌≢◌, ◌⊎◌, ℕ, Bool, false, not, ◌||◌, List, [], ◌++◌, Option, None, Some, Result, Ok, Err, is_ok}
use Rattle.kc_language.specs.Text.{GoesBeyond}
use Rattle.kc_language.specs.declared.diagnostics.Cause.TheVariants.{Memory}
use Rattle.kc_io.specs.Delivered.{Delivered}
use Rattle.kc_io.specs.Delivery.{StopsBefore, NamedText, delivers, stale, stale_lines, stale_texts, status_with}
use Rattle.kc_io.specs.Inputs.{still_told}
use Rattle.kc_io.specs.Log.{Event, Log, Leads, Tells, reported, said}
use Rattle.kc_io.specs.declared.delivery.Manner.{Manner}
use Rattle.kc_io.specs.declared.device.Action.TheVariants.{Report}
use Rattle.kc_io.specs.declared.device.Fault.{Fault}
use Rattle.kc_io.specs.declared.steps.Failure.{Failure}
use Rattle.kc_outcome.specs.Outcome.{Options, lead, refusal_line}
use Rattle.kc_read.specs.RefusalView.{refusal_view}
use Rattle.kc_read.specs.declared.refusal.Refusal.{Refusal}
use Rattle.kc_conf.specs.PartsOfOutcome.{strict_line}
use Rattle.kc_conf.specs.Faults.{AreLines, IsReport, clearing, event_of, stop_line}
use Rattle.kc_conf.specs.Many.{ends_all}
use Rattle.kc_conf.specs.Reads.{IsReportStop}
use Rattle.kc_outcome.specs.declared.outcome.Delivery.TheVariants.{Check}
use Rattle.kc_outcome.specs.declared.outcome.Status.{Status}
use Rattle.kc_outcome.specs.declared.outcome.Status.TheVariants.{Done, Refused, Faulted}
use Rattle.kc_conf.specs.declared.stop.Stop.{Stop}
use Rattle.kc_conf.specs.declared.stop.Stop.TheVariants.{OutOfMemory, Failed}

-- the text was reported; or it is not empty, and the diagnostics failed
abbrev pub SaysAll : List ℕ → Result (Unit {0}) Stop → Log → Log → Type 0
SaysAll text (Ok _) old new = Leads [] text old new
SaysAll text (Err stop) old new = IsReportStop stop × (text ≢ []) × Leads (event_of stop) [] old new

-- the line of a refusal was reported, or the diagnostics failed
abbrev pub Refuses : List ℕ → Result Status Stop → Log → Log → Type 0
Refuses line (Ok status) old new = (status ≡ Refused) × Leads [] line old new
Refuses line (Err stop) old new = IsReportStop stop × Leads (event_of stop) [] old new

-- the same for that of a tree, unless there was not enough memory
abbrev pub RefusesTree : Refusal → Result Status Stop → Log → Log → Type 0
RefusesTree r result old new = ((result ≡ Err OutOfMemory) × (new ≡ old)) ⊎ ((r.cause ≢ Memory) × Refuses (refusal_line (refusal_view r)) result old new)

-- the texts were delivered, or the failure is returned
abbrev pub HandsBy : Manner → List NamedText → Log → Log → Result Status Stop → Type 0
HandsBy manner texts old new (Ok status) = (status ≡ Done) × Delivered manner texts old new (Ok tt)
HandsBy manner texts old new (Err OutOfMemory) = ⊥
HandsBy manner texts old new (Err (Failed f)) = Delivered manner texts old new (Err f)

-- texts, or none if they are refused
abbrev pub texts_or : Option (List NamedText) → List NamedText
texts_or None = []
texts_or (Some texts) = texts

abbrev pub status_if : Option (List NamedText) → Status
status_if None = Refused
status_if (Some texts) = Done

abbrev pub line_if : Options → Option (List NamedText) → List ℕ
line_if options None = lead options ++ strict_line
line_if options (Some texts) = []

module _ (options : Options) (rest : List ℕ) (texts : List NamedText) where
  -- The rest of a run was done: the rest of the diagnostics was reported, the texts were delivered, and the status is the one for them.
  pub record IsEnded (ended : Status) (old new : Log) (status : Status) : Type 0 where
    pub made : List Event
    pub stale : List NamedText
    pub of_old : Tells (still_told old new) (λ journal. (made ≡ delivers options texts journal) × (stale ≡ stale_texts options texts journal))
    pub log : Leads made (rest ++ stale_lines options stale) old new
    pub status_is : status ≡ status_with stale ended
    pub only_checked : (stale ≡ []) ⊎ ((options.delivery ≡ Check) × (ended ≡ Done))

  -- why the run stopped early, what was done and what was reported
  pub data EndStops (told : Log) : Stop → List Event → List ℕ → Type 0 where
    in_diagnostics : (f : Failure) (front : List ℕ) → f.action ≡ Report → f.name.now ≡ [] → AreLines front →
        Tells told (λ journal. GoesBeyond (rest ++ stale_lines options (stale_texts options texts journal)) front) → EndStops told (Failed f) [] front
    in_delivery : (f : Failure) (done : List Event) →
        Tells told (λ journal. (left : List Event) × (done ++ left ≡ delivers options texts journal) × StopsBefore left (Err f)) →
        EndStops told (Failed f) done rest

  pub record BreaksEnd (stop : Stop) (old new : Log) : Type 0 where
    pub done : List Event
    pub front : List ℕ
    pub stops : EndStops (still_told old new) stop done front
    pub log : Leads (done ++ event_of stop ++ clearing options stop) front old new

  -- one of the two
  abbrev pub Ends : Status → Result Status Stop → Log → Log → Type 0
  Ends ended (Ok status) old new = IsEnded ended old new status
  Ends ended (Err stop) old new = BreaksEnd stop old new

-- some of these diagnostics were reported, and then the run ended
pub record Finishes (options : Options) (diagnostics : List ℕ) (texts : List NamedText) (ended : Status) (result : Result Status Stop) (old new : Log) : Type 0 where
  pub front : List ℕ
  pub rest : List ℕ
  pub mid : Log
  pub whole : front ++ rest ≡ diagnostics
  pub lines : AreLines front
  pub log : Leads [] front old mid
  pub ends : Ends options rest texts ended result mid new

-- these texts were compared with their files, and the stale ones were reported
pub record IsChecked (options : Options) (texts : List NamedText) (old new : Log) (status : Status) : Type 0 where
  pub found : List NamedText
  pub of_old : Tells (still_told old new) (λ journal. found ≡ stale texts journal)
  pub log : Leads [] (stale_lines options found) old new
  pub status_is : status ≡ status_with found Done

-- the reason why a run stopped early is reported
abbrev pub Reports : Options → Stop → Bool → Log → Log → Type 0
Reports options stop is_told old new = (report : Result (Unit {0}) Fault) × IsReport stop report × (is_told ≡ is_ok report)
    × Leads (reported report) (said report (stop_line options stop)) old new

-- a complete run returns its status; one that stopped early reports why, and returns `Faulted`
abbrev pub Answers : Options → Result Status Stop → Status → Bool → Log → Log → Type 0
Answers options (Ok ended) status is_over old new = (status ≡ ended) × (is_over ≡ false) × (new ≡ old)
Answers options (Err stop) status is_over old new = (status ≡ Faulted) × (is_told : Bool) × (is_over ≡ (ends_all stop || not is_told)) × Reports options stop is_told old new
