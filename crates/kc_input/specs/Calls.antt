-- Trusted: What any list of calls of a reader has read.
use Rattle.std.specs.Prelude.{List, [], ℕ, ◌++◌, ◌∷◌, ◌≡◌}
use Rattle.kc_input.specs.{Feeding.{EndsStream, ReadsPiece, StreamPosition, ended, fed}, ReaderState.ReaderState, Reading.with_warnings}
use Rattle.kc_language.specs.ConfigFile.{Line, UserInput, lines_from, reading}

pub data Call : Type 0 where
  Feed : List ℕ → Call
  Finish : Call

-- a call that returned Ok, and the warnings that it added
abbrev pub Answers : Call → ReaderState → ReaderState → UserInput → UserInput → List ℕ → Type 0
Answers (Feed piece) old new before after warned =
    (new ≡ record old { position = fed piece old.position }) × ReadsPiece old.tree old.prefix old.name piece old.position new.position before after warned
Answers Finish old new before after warned =
    (new ≡ record old { position = ended old.position }) × EndsStream old.tree old.prefix old.name old.position before after warned

-- a list of calls, in turn, each of which returned Ok
abbrev pub AllAnswered : List Call → ReaderState → ReaderState → UserInput → UserInput → List ℕ → Type 0
AllAnswered [] old new before after warned = (new ≡ old) × (after ≡ before) × (warned ≡ [])
AllAnswered (call ∷ calls) old new before after warned =
    (mid : ReaderState) × (middle : UserInput) × (first later : List ℕ)
    × Answers call old mid before middle first × AllAnswered calls mid new middle after later × (warned ≡ first ++ later)

-- The bytes that calls feed before the first `Finish`, and the lines that they feed after it. The first of these lines follows the line at this
-- position.
abbrev pub rest_of : List Call → List ℕ
rest_of [] = []
rest_of (Feed piece ∷ calls) = piece ++ rest_of calls
rest_of (Finish ∷ calls) = []

abbrev pub more_of : List ℕ → StreamPosition → List Call → List Line
more_of name position [] = []
more_of name position (Feed piece ∷ calls) = more_of name (fed piece position) calls
more_of name position (Finish ∷ calls) = lines_from name (ended position).number (rest_of calls) ++ more_of name (ended position) calls

-- all lines fed by the calls, from this state of the reader on: the bytes between two `Finish` calls are cut into lines on their own
abbrev pub lines_fed : ReaderState → List Call → List Line
lines_fed reader calls =
    lines_from reader.name reader.position.number (reader.position.pending ++ rest_of calls) ++ more_of reader.name reader.position calls

-- For any calls: reading all fed bytes gives the warnings of the calls, then what reading the pending bytes gives.
abbrev pub CallsJoin : Type 0
CallsJoin =
    (calls : List Call) (old new : ReaderState) (before after : UserInput) (warned : List ℕ) → AllAnswered calls old new before after warned →
    reading old.tree old.prefix before (lines_fed old calls)
    ≡ with_warnings warned (reading old.tree old.prefix after (lines_from new.name new.position.number new.position.pending))
