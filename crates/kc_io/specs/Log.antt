-- Trusted: What a device records: each call and its result, the contents of the files, and reading (our own).
-- A device keeps files by name and takes diagnostics. A device in memory records everything, until it runs out of memory; a disk records nothing.
use Rattle.std.specs.{Prelude.{◌≡◌, ℕ, zero, suc, ◌<◌, Bool, true, false, not, ◌||◌, if◌then◌else◌, List, [], ◌∷◌, ◌++◌, map, fold, take, length, is_some, unwrap_or, Option, None, Some, Result, Ok, Err, bytes_eq, option_map}, List.{last_or, list_all}, Option.option_map_or}
use Rattle.kc_language.specs.Lines.{is_line_feed}
use Rattle.kc_io.specs.declared.device.{Action.{Action, TheVariants.{Open, Miss, Read, Create, Write, Move, Report}}, Site.{Site, TheVariants.{Place, Beside}}, Fault.Fault}

-- ---- Events
-- An action, the file's name, the byte that was read or written (if any), and why the action failed (if it did).
pub record Event : Type 0 where
  pub action : Action
  pub name : List ℕ
  pub bytes : List ℕ
  pub fault : Option Fault

-- An action that succeeded; one that failed; and a read or write of bytes: each byte is an event, so it does not matter in which chunks they go.
abbrev pub did : Action → List ℕ → List Event
did action name = record { action = action; name = name; bytes = []; fault = None } ∷ []

abbrev pub failed : Action → List ℕ → Fault → List Event
failed action name fault = record { action = action; name = name; bytes = []; fault = Some fault } ∷ []

abbrev pub each_byte : Action → List ℕ → List ℕ → List Event
each_byte action name bytes = map (λ byte. record { action = action; name = name; bytes = byte ∷ []; fault = None }) bytes

-- The events of a result: of an action; of a write, which takes some of the bytes; of opening a file, which may be missing; and of a read,
-- which gives bytes, or none at the end of the file.
abbrev pub tried : Result (Unit {0}) Fault → Action → List ℕ → List Event
tried (Ok _) action name = did action name
tried (Err fault) action name = failed action name fault

abbrev pub wrote : Result ℕ Fault → Site → List ℕ → List ℕ → List Event
wrote (Ok count) site name bytes = each_byte (Write site) name (take count bytes)
wrote (Err fault) site name bytes = failed (Write site) name fault

abbrev pub opening : Result Bool Fault → List ℕ → List Event
opening (Ok true) name = did Open name
opening (Ok false) name = did Miss name
opening (Err fault) name = failed Open name fault

abbrev pub reading : Result ℕ Fault → List ℕ → List ℕ → List Event
reading (Ok zero) name buffer = did Read name
reading (Ok (suc count)) name buffer = each_byte Read name (take (suc count) buffer)
reading (Err fault) name buffer = failed Read name fault

-- Successful diagnostics are recorded as text. They are an event only if they fail.
abbrev pub reported : Result (Unit {0}) Fault → List Event
reported (Ok _) = []
reported (Err fault) = failed Report [] fault

abbrev pub said : Result (Unit {0}) Fault → List ℕ → List ℕ
said (Ok _) text = text
said (Err fault) text = []

-- ---- The log
-- The initial content of each file, the events since then, in order, and the text of the diagnostics.
pub record Journal : Type 0 where
  pub files : List ℕ → Option (List ℕ)
  pub events : List Event
  pub said : List ℕ

-- What a device records: a journal, or nothing. A journal with more events and text. `Tells`: P holds for the journal, if there is one.
abbrev pub Log : Type 0
Log = Option Journal

abbrev pub with_events : List Event → List ℕ → Journal → Journal
with_events events text journal = record { files = journal.files; events = journal.events ++ events; said = journal.said ++ text }

abbrev pub Tells : Log → (Journal → Type 0) → Type 0
Tells log P = (journal : Journal) → log ≡ Some journal → P journal

-- The new log is the old one with these events and this text. A device may stop recording.
pub record Leads (events : List Event) (text : List ℕ) (old new : Log) : Type 0 where
  pub told : (after : Journal) → new ≡ Some after → (before : Journal) × (old ≡ Some before) × (with_events events text before ≡ after)

-- ---- What the files hold
-- The content of the file of a name, if it exists, and the bytes of its temporary file.
pub record Spot : Type 0 where
  pub held : Option (List ℕ)
  pub beside : List ℕ

-- How an action with these bytes changes it; and how an event changes it for this name.
abbrev pub acted : Action → List ℕ → Spot → Spot
acted (Create Place) bytes spot = record spot { held = Some [] }
acted (Create Beside) bytes spot = record spot { beside = [] }
acted (Write Place) bytes spot = record spot { held = option_map (λ old. old ++ bytes) spot.held }
acted (Write Beside) bytes spot = record spot { beside = spot.beside ++ bytes }
acted Move bytes spot = record spot { held = Some spot.beside }
acted _ bytes spot = spot

abbrev pub after : List ℕ → Spot → Event → Spot
after name spot event = if is_some event.fault || not (bytes_eq name event.name) then spot else acted event.action event.bytes spot

-- The content of the file of a name now; and whether the file exists and holds these bytes.
abbrev pub held : Journal → List ℕ → Option (List ℕ)
held journal name = (fold (after name) (record { held = journal.files name; beside = [] }) journal.events).held

abbrev pub is_held : Journal → List ℕ → List ℕ → Bool
is_held journal name bytes = option_map_or (λ found. bytes_eq found bytes) (held journal name) false

-- Events that change no file: each failed, or is not a `Create`, `Write` or `Move`.
abbrev pub only_looks : Action → Bool
only_looks (Create _) = false
only_looks (Write _) = false
only_looks Move = false
only_looks _ = true

abbrev pub keeps_files : List Event → Bool
keeps_files events = list_all (λ event. is_some event.fault || only_looks event.action) events

-- ---- Reading and diagnostics
-- The file that was opened last: the unread bytes, if they are recorded, and how many more reads may return bytes.
pub record OpenFile : Type 0 where
  pub to_come : Option (List ℕ)
  pub reads_left : ℕ

-- The result of opening a file, `there`, agrees with the log. A file may be reported missing only if it may be missing.
pub record IsFound (log : Log) (name : List ℕ) (may_be_missing there : Bool) : Type 0 where
  pub missing : there ≡ false → may_be_missing ≡ true
  pub told : Tells log (λ journal. is_some (held journal name) ≡ there)

-- No byte of the file has been read yet; no byte is left to be read.
abbrev pub IsOpened : Log → List ℕ → OpenFile → Type 0
IsOpened log name file = file.to_come ≡ option_map (λ journal. unwrap_or (held journal name) []) log

abbrev pub IsAtEnd : Option (List ℕ) → Type 0
IsAtEnd None = Unit {0}
IsAtEnd (Some rest) = rest ≡ []

-- A read puts the next `count` bytes of the file in the buffer. If there are none, the file is at its end. If there are some, fewer reads are left.
pub record ReadsOn (count : ℕ) (buffer : List ℕ) (old new : OpenFile) : Type 0 where
  pub bytes : old.to_come ≡ option_map (λ rest. take count buffer ++ rest) new.to_come
  pub end : count ≡ 0 → 0 < length buffer → IsAtEnd new.to_come
  pub fewer : 0 < count → new.reads_left < old.reads_left

-- The text was reported, unless the diagnostics failed.
abbrev pub TriesToSay : List ℕ → Log → Log → Type 0
TriesToSay text old new = (report : Result (Unit {0}) Fault) × Leads (reported report) (said report text) old new
