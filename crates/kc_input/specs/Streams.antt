-- Trusted: Input files that a reader gets in chunks of any size.
use Rattle.std.specs.{List.concat, Prelude.{Bool, List, None, Option, [], map, ℕ, ◌++◌, ◌∷◌, ◌≡◌}}
use Rattle.kc_user.specs.Places.{ArePlaces}
use Rattle.kc_language.specs.{ConfigFile.{Notation, Stream, UserInput, no_input, reading_of}, Symbols.TreeFacts}
use Rattle.kc_entries.specs.WellFormed.{IsWellFormed}
use Rattle.kc_input.specs.{Calls.{AllAnswered, Call, Feed, Finish}, Feeding.{Refuses, StreamPosition, stream_start}, ReaderState.ReaderState, declared.fault.InputFault.InputFault}

-- the name of an input file, and its bytes in chunks
pub record Pieces : Type 0 where
  pub name : List ℕ
  pub pieces : List (List ℕ)

abbrev pub stream_of : Pieces → Stream
stream_of s = record { name = s.name; bytes = concat s.pieces }

abbrev pub feeds : List (List ℕ) → List Call
feeds pieces = map Feed pieces

-- a new reader of an input file
abbrev pub reader_of : TreeFacts → Notation → List ℕ → ReaderState
reader_of tree prefix name = record { tree = tree; prefix = prefix; name = name; position = stream_start; refusal = None }

-- Input files, one after another: a new reader got the chunks of each, and then finished its last line.
abbrev pub AreHandedIn : TreeFacts → Notation → List Pieces → UserInput → UserInput → List ℕ → Type 0
AreHandedIn tree prefix [] before after warned = (after ≡ before) × (warned ≡ [])
AreHandedIn tree prefix (s ∷ streams) before after warned =
    (end : ReaderState) × (middle : UserInput) × (first later : List ℕ)
    × AllAnswered (feeds s.pieces ++ Finish ∷ []) (reader_of tree prefix s.name) end before middle first
    × AreHandedIn tree prefix streams middle after later × (warned ≡ first ++ later)

-- Reading input files in chunks gives the same as reading them at once.
abbrev pub StreamsAreRead : Type 0
StreamsAreRead =
    (tree : TreeFacts) (prefix : Notation) (streams : List Pieces) (before after : UserInput) (warned : List ℕ) →
    AreHandedIn tree prefix streams before after warned →
    reading_of tree prefix before (map stream_of streams) ≡ record { input = after; warned = warned; stopped = None }

-- Allowed user values stay allowed after any calls.
abbrev pub ReadingKeepsPlaces : Type 0
ReadingKeepsPlaces =
    (calls : List Call) (old new : ReaderState) (before after : UserInput) (warned : List ℕ) → IsWellFormed old.tree →
    AllAnswered calls old new before after warned → ArePlaces old.tree before.places → ArePlaces old.tree after.places

-- Reading any input files from no user values leaves allowed user values.
abbrev pub StreamsLeavePlaces : Type 0
StreamsLeavePlaces =
    (tree : TreeFacts) (prefix : Notation) (keeps_lines : Bool) (gone : Option (List ℕ × List ℕ)) (asks_unset : Bool) (lead : List ℕ) (streams : List Stream) → IsWellFormed tree →
    ArePlaces tree (reading_of tree prefix (record (no_input keeps_lines tree) { gone = gone; asks_unset = asks_unset; lead = lead }) streams).input.places

-- Allowed user values stay allowed after a call that failed.
abbrev pub RefusalsKeepPlaces : Type 0
RefusalsKeepPlaces =
    (tree : TreeFacts) (prefix : Notation) (name : List ℕ) (fault : InputFault) (piece : List ℕ) (old new : StreamPosition) (before after : UserInput) (told told_after : List ℕ) →
    IsWellFormed tree → Refuses tree prefix name fault piece old new before after told told_after →
    ArePlaces tree before.places → ArePlaces tree after.places
