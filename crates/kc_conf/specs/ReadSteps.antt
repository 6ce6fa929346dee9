-- For proofs: The steps of reading the input files.
use Rattle.std.specs.Prelude.{◌≡◌, ◌⊎◌, ℕ, Bool, true, false, not, if◌then◌else◌, List, [], ◌∷◌, ◌++◌, All, Option, None, Some, Result, OnOk, IfErr, length, map, take, ⊤, option_map}
use Rattle.kc_text.specs.PartsOfLines.{HoldsNoLineFeed}
use Rattle.kc_language.specs.Symbols.{TreeFacts}
use Rattle.kc_language.specs.ConfigFile.{ArePlacesOf, Line, UserInput, lines_from, lines_of, reading}
use Rattle.kc_io.specs.Log.{Event, Log, Leads, did, each_byte, IsFound, IsOpened, OpenFile}
use Rattle.kc_io.specs.declared.device.Action.{Action}
use Rattle.kc_io.specs.declared.device.Action.TheVariants.{Open, Miss, Read, Report}
use Rattle.kc_io.specs.declared.steps.Failure.{Failure}
use Rattle.kc_input.specs.Feeding.{EndsStream, ReadsPiece, StreamPosition, stream_start, to_come}
use Rattle.kc_language.specs.Texts.{HasShortLines}
use Rattle.kc_input.specs.ReaderState.{ReaderState}
use Rattle.kc_input.specs.Reading.{with_warnings}
use Rattle.kc_language.specs.Text.{BeginsWith, GoesBeyond}
use Rattle.kc_outcome.specs.Outcome.{Options, input_files, input_names, streams}
use Rattle.kc_conf.specs.Faults.{AreLines}
use Rattle.kc_conf.specs.Faults.{event_of}
use Rattle.kc_io.specs.Inputs.{InputFile, IsAsTold, IsThere, ReadsInto, begun, bytes_of, reads, reads_one, still_told}
use Rattle.kc_conf.specs.PartsOfFaults.{ended_lines}
use Rattle.kc_conf.specs.Reads.{IsReportStop, ended_with}
use Rattle.kc_conf.specs.declared.reading.Waiting.{Waiting}
use Rattle.kc_conf.specs.declared.stop.Stop.{Stop}
use Rattle.kc_conf.specs.declared.stop.Stop.TheVariants.{OutOfMemory, Failed}

-- ---- what is reported, and what waits

-- The state while files are read: the user's input so far, the waiting diagnostics, the open file and the log.
pub record Stand : Type 0 where
  pub input : UserInput
  pub waiting : Waiting
  pub file : OpenFile
  pub log : Log

abbrev pub stand : {D : Type 0} → (D → OpenFile) → (D → Log) → UserInput → Waiting → D → Stand
stand file log input waiting device = record { input = input; waiting = waiting; file = file device; log = log device }

-- the warnings that are reported at once
abbrev pub said_now : Bool → List ℕ → List ℕ
said_now holds warned = if holds then [] else warned

-- the warnings that are held back
abbrev pub held_back : Bool → List ℕ → List ℕ
held_back holds warned = if holds then warned else []

-- only held back warnings wait
abbrev pub OnlyHeldWaits : Waiting → Type 0
OnlyHeldWaits waiting = waiting.text.items ≡ held_back waiting.holds waiting.text.items

-- These events were done, and these warnings, which are whole lines, were reported or wait.
pub record Warns (warned : List ℕ) (events : List Event) (old new : Stand) : Type 0 where
  pub lines : AreLines warned
  pub log : Leads events (said_now old.waiting.holds warned) old.log new.log
  pub waits : new.waiting.text.items ≡ old.waiting.text.items ++ held_back old.waiting.holds warned
  pub holds : new.waiting.holds ≡ old.waiting.holds

-- Reporting the warnings stopped after this much of them: whole lines. If they are held back, nothing was reported.
abbrev pub StopsWarnings : Bool → Stop → List ℕ → List ℕ → Type 0
StopsWarnings true OutOfMemory warned front = front ≡ []
StopsWarnings true (Failed f) warned front = ⊥
StopsWarnings false OutOfMemory warned front = AreLines front × BeginsWith warned front
StopsWarnings false (Failed f) warned front = IsReportStop (Failed f) × AreLines front × GoesBeyond warned front

-- ---- the device

-- the device failed at this action
abbrev pub FailsAt : Action → List ℕ → Stop → Log → Log → Type 0
FailsAt action name OutOfMemory old new = ⊥
FailsAt action name (Failed f) old new = (f.action ≡ action) × (f.name.now ≡ name) × Leads (event_of (Failed f)) [] old new

-- the file of a name was opened, or does not exist
pub record Opens (name : List ℕ) (may_be_missing there : Bool) (old new : Log) (file : OpenFile) : Type 0 where
  pub log : Leads (if there then did Open name else did Miss name) [] old new
  pub found : IsFound old name may_be_missing there
  pub opened : there ≡ true → IsOpened old name file

-- The waiting diagnostics were reported, unless they are held back; or the diagnostics failed, and there was something to report.
pub record SaysWaiting (result : Result (Unit {0}) Stop) (waiting after : Waiting) (old new : Log) : Type 0 where
  pub said : OnOk result (Leads [] (said_now waiting.holds waiting.text.items) old new × (after.text.items ≡ held_back waiting.holds waiting.text.items))
  pub failed : IfErr result (λ stop. FailsAt Report [] stop old new × GoesBeyond (said_now waiting.holds waiting.text.items) [])
  pub holds : after.holds ≡ waiting.holds

-- the file has these bytes, if that is recorded
abbrev pub Gives : Option (List ℕ) → List ℕ → Type 0
Gives None bytes = ⊤
Gives (Some all) bytes = all ≡ bytes

-- a file that exists
abbrev pub there_file : List ℕ → List ℕ → InputFile
there_file name bytes = record { name = name; is_missing = false; bytes = bytes }

-- ---- chunks of an input file

-- a reader without a fault, user values of its tree, and only held back warnings wait
pub record IsReadyToRead (reader : ReaderState) (input : UserInput) (waiting : Waiting) : Type 0 where
  pub fresh : reader.refusal ≡ None
  pub places : ArePlacesOf reader.tree input.places
  pub only : OnlyHeldWaits waiting

module _ (reader : ReaderState) where
  -- For any lines that follow: these lines are read, with these warnings; or one of them is too long, after these warnings.
  abbrev pub ReadsLines : Option ℕ → List Line → UserInput → UserInput → List ℕ → Type 0
  ReadsLines None lines before after warned =
      (more : List Line) → reading reader.tree reader.prefix before (lines ++ more) ≡ with_warnings warned (reading reader.tree reader.prefix after more)
  ReadsLines (Some number) lines before after warned =
      (more : List Line) → reading reader.tree reader.prefix before (lines ++ more) ≡ ended_with after warned (Some (record { stream = reader.name; number = number }))

  -- For any bytes that follow: the chunk is read; or one of its lines is too long.
  abbrev pub TakesBytes : Option ℕ → List ℕ → StreamPosition → StreamPosition → UserInput → UserInput → List ℕ → Type 0
  TakesBytes None piece old new before after warned = ReadsPiece reader.tree reader.prefix reader.name piece old new before after warned
  TakesBytes (Some number) piece old new before after warned =
      (rest : List ℕ) (more : List Line) → reading reader.tree reader.prefix before (to_come reader.name old (piece ++ rest) more)
      ≡ ended_with after warned (Some (record { stream = reader.name; number = number }))

  -- a reader without a fault, of the same input file, which has read all complete lines
  pub record IsStillFresh (after : ReaderState) : Type 0 where
    pub same : after ≡ record reader { position = after.position }
    pub fresh : after.refusal ≡ None
    pub waits : HoldsNoLineFeed after.position.pending

  -- a chunk was read, up to a line that is too long, if there is one
  pub record TakesPiece (piece : List ℕ) (long : Option ℕ) (after : ReaderState) (old new : Stand) : Type 0 where
    pub warned : List ℕ
    pub takes : TakesBytes long piece reader.position after.position old.input new.input warned
    pub warns : Warns warned [] old new
    pub still : long ≡ None → IsStillFresh after
    pub same_file : new.file ≡ old.file

  -- reading it stopped early
  pub record BreaksPiece (piece : List ℕ) (stop : Stop) (old new : Stand) : Type 0 where
    pub front : List ℕ
    pub stops : (rest : List ℕ) (more : List Line) →
        StopsWarnings old.waiting.holds stop (reading reader.tree reader.prefix old.input (to_come reader.name reader.position (piece ++ rest) more)).warned front
    pub log : Leads (event_of stop) front old.log new.log

  -- the last line was finished
  pub record EndsFile (old new : Stand) : Type 0 where
    pub warned : List ℕ
    pub ends : EndsStream reader.tree reader.prefix reader.name reader.position old.input new.input warned
    pub warns : Warns warned [] old new

  -- finishing it stopped early
  pub record BreaksEnd (stop : Stop) (old new : Stand) : Type 0 where
    pub front : List ℕ
    pub stops : (more : List Line) →
        StopsWarnings old.waiting.holds stop (reading reader.tree reader.prefix old.input (lines_from reader.name reader.position.number reader.position.pending ++ more)).warned front
    pub log : Leads (event_of stop) front old.log new.log

  -- this many bytes of the open file were read, and given to the reader
  pub record TakesSoFar (name : List ℕ) (position : StreamPosition) (old new : Stand) : Type 0 where
    pub bytes : List ℕ
    pub given : old.file.to_come ≡ option_map (λ rest. bytes ++ rest) new.file.to_come
    pub warned : List ℕ
    pub takes : ReadsPiece reader.tree reader.prefix reader.name bytes stream_start position old.input new.input warned
    pub warns : Warns warned (each_byte Read name bytes) old new

  -- ---- a file

  -- it was read to its end; or to some point after a line that is too long
  abbrev pub ReadsFileTo : Option ℕ → InputFile → List Event → Type 0
  ReadsFileTo None file events = events ≡ reads_one file
  ReadsFileTo (Some number) file events = ReadsInto file events

  -- It could not be opened or read on: this many of its bytes were read, in which no line is too long.
  pub record ReadsPart (action : Action) (file : InputFile) (holds : Bool) (before : UserInput) (done : List Event) (front : List ℕ) : Type 0 where
    pub bytes : List ℕ
    pub begins : BeginsWith file.bytes bytes
    pub short : HasShortLines bytes
    pub nothing_before : action ≡ Open → bytes ≡ []
    pub done_is : done ≡ begun action file.name bytes
    pub front_is : front ≡ said_now holds (reading reader.tree reader.prefix before (ended_lines reader.name bytes)).warned

  -- why reading it stopped early, what was done of it and what was reported
  pub data StopsFile (file : InputFile) (holds : Bool) (before : UserInput) : Stop → List Event → List ℕ → Type 0 where
    in_lines : (stop : Stop) (done left : List Event) (front : List ℕ) → done ++ left ≡ reads_one file →
        ((more : List Line) → StopsWarnings holds stop (reading reader.tree reader.prefix before (lines_from reader.name 1 file.bytes ++ more)).warned front) →
        StopsFile file holds before stop done front
    in_file : (f : Failure) (done : List Event) (front : List ℕ) → (f.action ≡ Open) ⊎ (f.action ≡ Read) → f.name.now ≡ file.name → ReadsPart f.action file holds before done front →
        StopsFile file holds before (Failed f) done front

  -- an open file was read
  pub record ReadsOpened (name : List ℕ) (long : Option ℕ) (old new : Stand) : Type 0 where
    pub bytes : List ℕ
    pub gives : Gives old.file.to_come bytes
    pub events : List Event
    pub reads_to : ReadsFileTo long (there_file name bytes) (did Open name ++ events)
    pub warned : List ℕ
    pub goes : ReadsLines long (lines_from reader.name 1 bytes) old.input new.input warned
    pub warns : Warns warned events old new

  pub record BreaksOpened (name : List ℕ) (stop : Stop) (old new : Stand) : Type 0 where
    pub bytes : List ℕ
    pub gives : Gives old.file.to_come bytes
    pub done : List Event
    pub front : List ℕ
    pub stops : StopsFile (there_file name bytes) old.waiting.holds old.input stop (did Open name ++ done) front
    pub log : Leads (done ++ event_of stop) front old.log new.log

  -- a file was read, or does not exist
  pub record ReadsFile (name : List ℕ) (may_be_missing : Bool) (long : Option ℕ) (old new : Stand) : Type 0 where
    pub file : InputFile
    pub named : file.name ≡ name
    pub told : IsAsTold (still_told old.log new.log) may_be_missing file
    pub there : IsThere (still_told old.log new.log) file
    pub events : List Event
    pub reads_to : ReadsFileTo long file events
    pub warned : List ℕ
    pub goes : ReadsLines long (lines_from reader.name 1 file.bytes) old.input new.input warned
    pub warns : Warns warned events old new

  pub record BreaksFile (name : List ℕ) (may_be_missing : Bool) (stop : Stop) (old new : Stand) : Type 0 where
    pub file : InputFile
    pub named : file.name ≡ name
    pub told : IsAsTold (still_told old.log new.log) may_be_missing file
    pub done : List Event
    pub front : List ℕ
    pub stops : StopsFile file old.waiting.holds old.input stop done front
    pub log : Leads (done ++ event_of stop) front old.log new.log

-- ---- the files

-- they agree with the record; only the first may be missing
abbrev pub AreAsTold : Log → Bool → List InputFile → Type 0
AreAsTold log may_be_missing [] = ⊤
AreAsTold log may_be_missing (file ∷ files) = IsAsTold log may_be_missing file × AreAsTold log false files

-- This many of the input files were read, each to its end.
pub record ReadsSoFar (options : Options) (tree : TreeFacts) (count : ℕ) (old new : Stand) : Type 0 where
  pub files : List InputFile
  pub counted : length files ≡ count
  pub named : map (λ file. file.name) files ≡ take count (input_files options)
  pub told : AreAsTold (still_told old.log new.log) (not options.must_exist) files
  pub there : All (IsThere (still_told old.log new.log)) files
  pub short : All HasShortLines (bytes_of files)
  pub warned : List ℕ
  pub goes : (more : List Line) → reading tree options.prefix old.input (lines_of (streams (input_names options) (bytes_of files)) ++ more)
      ≡ with_warnings warned (reading tree options.prefix new.input more)
  pub warns : Warns warned (reads files) old new
