-- Trusted: What a device records of the input files of a run, which are read one after another (our own).
-- The language says which names the options give (Outcome) and which lines are too long (Texts).
use Rattle.std.specs.Prelude.{◌≡◌, ℕ, ◌<◌, Bool, true, false, not, ◌&&◌, if◌then◌else◌, List, [], ◌∷◌, ◌++◌, All, map, take, flat_map, is_none, is_some, unwrap_or, slice_get, slice_index_or, Option, None, Some}
use Rattle.kc_language.specs.{ConfigFile.{StreamLocation}, Texts.{HasShortLines}}
use Rattle.kc_outcome.specs.Outcome.{Options, input_files}
use Rattle.kc_io.specs.{Log.{Event, Log, Tells, did, each_byte, held}, declared.device.Action.{Action, TheVariants.{Miss, Open, Read}}}

-- What the device recorded at first, if it still records at the end.
abbrev pub still_told : Log → Log → Log
still_told old new = elim new [ None ↦ None | Some journal ↦ old ]

-- An input file: its name, whether it is missing, and its bytes (none if it is missing).
pub record InputFile : Type 0 where
  pub name : List ℕ
  pub is_missing : Bool
  pub bytes : List ℕ

abbrev pub bytes_of : List InputFile → List (List ℕ)
bytes_of files = map (λ file. file.bytes) files

-- The file is as the device records it. Only a file that may be missing is found to be missing; any other file that does not exist cannot be opened.
pub record IsAsTold (log : Log) (may_be_missing : Bool) (file : InputFile) : Type 0 where
  pub missing : file.is_missing ≡ true → (may_be_missing ≡ true) × (file.bytes ≡ [])
  pub told : Tells log (λ journal. (file.bytes ≡ unwrap_or (held journal file.name) [])
      × (file.is_missing ≡ (may_be_missing && is_none (held journal file.name))))

-- The input files of the options: the `.config`, which may be missing except with --must-exist, and the fragments.
abbrev pub AreInputs : Log → Options → List InputFile → Type 0
AreInputs log options [] = ⊥
AreInputs log options (config ∷ fragments) = (map (λ file. file.name) (config ∷ fragments) ≡ input_files options)
    × IsAsTold log (not options.must_exist) config × All (IsAsTold log false) fragments

-- Each file is opened, read to its end and closed, or found to be missing, one after another.
abbrev pub reads_one : InputFile → List Event
reads_one file = if file.is_missing then did Miss file.name else did Open file.name ++ each_byte Read file.name file.bytes ++ did Read file.name

abbrev pub reads : List InputFile → List Event
reads files = flat_map reads_one files

-- The turn of a file comes if no line of the files before it is too long. Each file whose turn comes exists, unless it is found to be missing.
abbrev pub HasTurn : List InputFile → ℕ → Type 0
HasTurn files i = (j : ℕ) → j < i → HasShortLines (slice_index_or (bytes_of files) j [])

abbrev pub IsThere : Log → InputFile → Type 0
IsThere told file = file.is_missing ≡ false → Tells told (λ journal. is_some (held journal file.name) ≡ true)

abbrev pub AreThere : Log → List InputFile → Type 0
AreThere told files = (i : ℕ) (file : InputFile) → slice_get files i ≡ Some file → HasTurn files i → IsThere told file

-- All are read; or those before the first file that has a line which is too long, and some prefix of that file.
pub record ReadsInto (file : InputFile) (events : List Event) : Type 0 where
  pub left : List Event
  pub begins : events ++ left ≡ reads_one file

pub data ReadsTo (files : List InputFile) : Option StreamLocation → List Event → Type 0 where
  all : ReadsTo files None (reads files)
  line : (stop : StreamLocation) (i : ℕ) (file : InputFile) (events : List Event) → slice_get files i ≡ Some file → HasTurn files i →
      (HasShortLines file.bytes → ⊥) → ReadsInto file events → ReadsTo files (Some stop) (reads (take i files) ++ events)

-- The events of a file of which these bytes were read before this action failed.
abbrev pub begun : Action → List ℕ → List ℕ → List Event
begun action = elim action [ Read ↦ λ name bytes. did Open name ++ each_byte Read name bytes | _ ↦ λ name bytes. [] ]
