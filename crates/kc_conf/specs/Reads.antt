-- For proofs: The effect of reading the input files.
use Rattle.std.specs.Prelude.{◌≡◌, ◌⊎◌, ℕ, Bool, if◌then◌else◌, List, [], ◌∷◌, ◌++◌, Option, Result, Ok, Err, codes, ⊤}
use Rattle.std.specs.Borrow.{Bor}
use Rattle.std.specs.Result.{is_ok}
use Rattle.kc_language.specs.Symbols.{TreeFacts}
use Rattle.kc_io.specs.Log.{Event, Log, Leads, reported, said}
use Rattle.kc_io.specs.declared.device.Action.TheVariants.{Open, Read, Report}
use Rattle.kc_io.specs.declared.device.Fault.{Fault}
use Rattle.kc_io.specs.declared.device.Fault.TheVariants as fault
use Rattle.kc_io.specs.declared.steps.Failure.{Failure}
use Rattle.kc_language.specs.ConfigFile.{ReadResult, StreamLocation, UserInput, lines_of, reading}
use Rattle.kc_language.specs.Text.{BeginsWith, GoesBeyond}
use Rattle.kc_outcome.specs.Outcome.{Options, input_names, streams}
use Rattle.kc_language.specs.Statements.{out_of_memory_line}
use Rattle.kc_conf.specs.Faults.{AreLines}
use Rattle.kc_conf.specs.Faults.{event_of, ReadsUpTo}
use Rattle.kc_io.specs.Inputs.{AreInputs, AreThere, InputFile, ReadsTo, bytes_of, reads, still_told}
use Rattle.kc_conf.specs.declared.reading.LongLine.{LongLine}
use Rattle.kc_conf.specs.declared.reading.Waiting.{Waiting}
use Rattle.kc_conf.specs.declared.stop.Stop.{Stop}
use Rattle.kc_conf.specs.declared.stop.Stop.TheVariants.{OutOfMemory, Failed}

-- the input file and the number of a line that is too long
abbrev pub stop_of : LongLine → StreamLocation
stop_of l = record { stream = l.stream.now; number = l.number }

-- the result of a reading that ended with this input after these warnings
abbrev pub ended_with : UserInput → List ℕ → Option StreamLocation → ReadResult
ended_with input warned stopped = record { input = input; warned = warned; stopped = stopped }

-- The input files were read, to the end of the last or to a line that is too long. Their warnings were reported, or wait.
pub record ReadsInputs (options : Options) (tree : TreeFacts) (stopped : Option StreamLocation) (before after : UserInput) (waiting : Waiting) (old new : Log) : Type 0 where
  pub inputs : List InputFile
  pub are_inputs : AreInputs (still_told old new) options inputs
  pub events : List Event
  pub reads_to : ReadsTo inputs stopped events
  pub there : AreThere (still_told old new) inputs
  pub warned : List ℕ
  pub reading_is : reading tree options.prefix before (lines_of (streams (input_names options) (bytes_of inputs))) ≡ ended_with after warned stopped
  pub log : Leads events (if waiting.holds then [] else warned) old new
  pub waits : waiting.text.items ≡ (if waiting.holds then warned else [])

-- why reading them stopped early, what was done and what was reported (`told` is what the device recorded at first)
pub data StopsInputs (told : Log) (options : Options) (tree : TreeFacts) (inputs : List InputFile) (warned : List ℕ) : Stop → List Event → List ℕ → Type 0 where
  no_memory : (done left : List Event) (front : List ℕ) → done ++ left ≡ reads inputs → AreLines front → BeginsWith warned front → StopsInputs told options tree inputs warned OutOfMemory done front
  in_diagnostics : (f : Failure) (done left : List Event) (front : List ℕ) → f.action ≡ Report → f.name.now ≡ [] → done ++ left ≡ reads inputs → AreLines front →
      GoesBeyond warned front → StopsInputs told options tree inputs warned (Failed f) done front
  in_input : (f : Failure) (file : InputFile) (done : List Event) (front : List ℕ) → (f.action ≡ Open) ⊎ (f.action ≡ Read) → f.name.now ≡ file.name →
      ReadsUpTo told options tree inputs f.action file done front → StopsInputs told options tree inputs warned (Failed f) done front

pub record BreaksInputs (options : Options) (tree : TreeFacts) (stop : Stop) (before : UserInput) (old new : Log) : Type 0 where
  pub inputs : List InputFile
  pub are_inputs : AreInputs (still_told old new) options inputs
  pub done : List Event
  pub front : List ℕ
  pub stops : StopsInputs (still_told old new) options tree inputs (reading tree options.prefix before (lines_of (streams (input_names options) (bytes_of inputs)))).warned stop done front
  pub log : Leads (done ++ event_of stop) front old new

-- the diagnostics failed
abbrev pub IsReportStop : Stop → Type 0
IsReportStop OutOfMemory = ⊥
IsReportStop (Failed f) = (f.action ≡ Report) × (f.name.now ≡ [])

-- the text was reported, or the diagnostics failed
abbrev pub Says : List ℕ → Result (Unit {0}) Stop → Log → Log → Type 0
Says text (Ok _) old new = Leads [] text old new
Says text (Err stop) old new = IsReportStop stop × Leads (event_of stop) [] old new

-- these bytes end a line
abbrev pub IsWholeEnd : List ℕ → Type 0
IsWholeEnd bytes = (front : List ℕ) × (bytes ≡ front ++ codes "\n")

-- the last of these parts, if any, ends a line
abbrev pub LastEndsLine : List (Bor (List ℕ)) → Type 0
LastEndsLine [] = ⊤
LastEndsLine (part ∷ []) = IsWholeEnd part.now
LastEndsLine (part ∷ next ∷ parts) = LastEndsLine (next ∷ parts)

-- if this holds, the text was reported; otherwise the diagnostics failed
abbrev pub SaysIf : List ℕ → Bool → Log → Log → Type 0
SaysIf text is_said old new = (report : Result (Unit {0}) Fault) × (is_said ≡ is_ok report) × Leads (reported report) (said report text) old new

-- the line about a device that failed: this one, or that there was not enough memory
abbrev pub failure_line : Fault → List ℕ → List ℕ
failure_line fault.Memory line = out_of_memory_line
failure_line fault.Refused line = line
