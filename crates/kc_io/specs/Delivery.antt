-- Trusted: How texts are written to their files, event by event, and the laws of delivery (our own).
use Rattle.std.specs.{Prelude.{◌≡◌, ℕ, Bool, true, false, not, ◌||◌, if◌then◌else◌, List, [], ◌∷◌, ◌++◌, filter, flat_map, Option, Some, Result, Ok, Err, string_bytes, bytes_eq}, List.list_any}
use Rattle.kc_outcome.specs.{Outcome.{Options, Outcome, lead}, declared.outcome.{Delivery.{Delivery}, Status.{Status}, WantedOutput.{WantedOutput}}}
use Rattle.kc_language.specs.{Statements.{run_error_text, error_line}, declared.diagnostics.RunError.{RunError}}
use Rattle.kc_io.specs.{Log.{Event, Journal, Leads, Log, did, each_byte, held, is_held, keeps_files, with_events}, declared.{device.{Action.{Action, TheVariants.{Clear, Create, Write, Close, Move}}, Site.{Site, TheVariants.{Place, Beside}}}, delivery.Manner.{Manner, TheVariants.{InPlace, Replacing}}, steps.Failure.Failure}}

-- A text, and the name of the file to which it belongs.
pub record NamedText : Type 0 where
  pub name : List ℕ
  pub bytes : List ℕ

-- A file is created, written and closed: the file itself, or a temporary file beside it, which is then renamed.
abbrev pub put : Site → NamedText → List Event
put site text = did (Create site) text.name ++ each_byte (Write site) text.name text.bytes ++ did (Close site) text.name

abbrev pub moved : NamedText → List Event
moved text = did Move text.name

-- Whether two of the texts have the same name; and the texts that differ from what their files hold.
abbrev pub share_name : List NamedText → Bool
share_name [] = false
share_name (text ∷ texts) = list_any (λ other. bytes_eq text.name other.name) texts || share_name texts

abbrev pub stale : List NamedText → Journal → List NamedText
stale texts journal = filter (λ text. not (is_held journal text.name text.bytes)) texts

-- The texts to be written: all of them. With --replace, only those that differ from their files, unless two have the same name.
abbrev pub chosen : Manner → List NamedText → Journal → List NamedText
chosen InPlace texts journal = texts
chosen Replacing texts journal = if share_name texts then texts else stale texts journal

-- The events of a delivery: each file is written in place. With --replace, all are written to temporary files first, which are then renamed.
abbrev pub delivery : Manner → List NamedText → List Event
delivery InPlace texts = flat_map (put Place) texts
delivery Replacing texts = flat_map (put Beside) texts ++ flat_map moved texts

-- The events that are left when a delivery ends: none, or those from the failed one on.
abbrev pub StopsBefore : List Event → Result (Unit {0}) Failure → Type 0
StopsBefore [] (Ok _) = Unit {0}
StopsBefore (event ∷ _) (Err failure) = (event.action ≡ failure.action) × (event.name ≡ failure.name.now)
StopsBefore _ _ = ⊥

-- ---- The texts of an outcome
-- The texts with the names of their files, in the order in which they are delivered.
abbrev pub with_names : List WantedOutput → List (List ℕ) → List NamedText
with_names (wanted ∷ outputs) (text ∷ texts) = record { name = string_bytes wanted.file; bytes = text } ∷ with_names outputs texts
with_names _ _ = []

abbrev pub texts_of : Options → Outcome → List NamedText
texts_of options outcome = with_names options.outputs.items outcome.texts

-- They are written. With --replace, those that differ from their files replace them. With --check, nothing is written.
abbrev pub delivers : Options → List NamedText → Journal → List Event
delivers options = elim options.delivery [
  | Delivery.Write ↦ λ texts journal. delivery InPlace texts
  | Delivery.Check ↦ λ texts journal. []
  | Delivery.Replace ↦ λ texts journal. delivery Replacing (chosen Replacing texts journal)
]

-- The texts that --check finds to differ from their files, and their error lines. If there is one, a run that was done is refused.
abbrev pub stale_texts : Options → List NamedText → Journal → List NamedText
stale_texts options = elim options.delivery [ Delivery.Check ↦ stale | _ ↦ λ texts journal. [] ]

abbrev pub stale_lines : Options → List NamedText → List ℕ
stale_lines options texts = flat_map (λ text. lead options ++ error_line (run_error_text (RunError.NotUpToDate text.name))) texts

abbrev pub status_with : List NamedText → Status → Status
status_with texts = elim texts [ [] ↦ λ status. status | _ ↦ λ status. Status.Refused ]

-- The temporary files are removed after a failure to write with --replace.
abbrev pub cleared_by : Delivery → Action → List Event
cleared_by Delivery.Replace action =
    elim action [ Create _ ↦ did Clear [] | Write _ ↦ did Clear [] | Close _ ↦ did Clear [] | Move ↦ did Clear [] | _ ↦ [] ]
cleared_by _ _ = []

-- ---- Laws
-- The last text of this name, or what was there.
abbrev pub last_of : List ℕ → List NamedText → Option (List ℕ) → Option (List ℕ)
last_of name [] there = there
last_of name (text ∷ texts) there = last_of name texts (if bytes_eq name text.name then Some text.bytes else there)

-- After a whole delivery, each file holds the last of the texts with its name, or what it held before.
abbrev pub DeliveryHolds : Type 0
DeliveryHolds = (name : List ℕ) (manner : Manner) (texts : List NamedText) (journal : Journal) →
    held (with_events (delivery manner texts) [] journal) name ≡ last_of name texts (held journal name)

-- Events that failed, or that do not create, write or move a file, do not change what files hold.
abbrev pub LookingKeeps : Type 0
LookingKeeps = (name : List ℕ) (events : List Event) (text : List ℕ) (journal : Journal) → keeps_files events ≡ true →
    held (with_events events text journal) name ≡ held journal name

-- The events and the text of one turn and of the next one are together those of both.
abbrev pub TurnsFollow : Type 0
TurnsFollow = (first second : List Event) (before behind : List ℕ) (old mid new : Log) → Leads first before old mid → Leads second behind mid new →
    Leads (first ++ second) (before ++ behind) old new
