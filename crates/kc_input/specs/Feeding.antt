-- Trusted: What a reader does with the bytes that it is fed, for any bytes after them.
use Rattle.std.specs.{List.after_last, Prelude.{List, Some, [], count_by, false, if◌then◌else◌, length, min, ℕ, ◌++◌, ◌+◌, ◌<◌, ◌==◌, ◌∷◌, ◌≡◌, ◌≤◌}}
use Rattle.kc_text.specs.{PartsOfLines.HoldsNoLineFeed, PartsOfText.{last_count, one_more}}
use Rattle.kc_language.specs.{ConfigFile.{Line, Notation, UserInput, lines_from, reading}, Lines.is_line_feed, Symbols.TreeFacts, Text.longest_input_line}
use Rattle.kc_input.specs.{Reading.with_warnings, declared.fault.InputFault.{InputFault, TheVariants.{InputLineTooLong, Memory}}}

-- the position of a reader in its input file: the number of the unfinished line, and its bytes so far
pub record StreamPosition : Type 0 where
  pub number : ℕ
  pub pending : List ℕ

-- the start of an input file
abbrev pub stream_start : StreamPosition
stream_start = record { number = 1; pending = [] }

-- the pending bytes are part of one line that is not too long
pub record IsWithinLine (position : StreamPosition) : Type 0 where
  pub numbered : position.number ≤ last_count
  pub within : length position.pending ≤ longest_input_line
  pub one_line : HoldsNoLineFeed position.pending

-- the line's number after these bytes: one more for each LF
abbrev pub number_after : ℕ → List ℕ → ℕ
number_after n bytes = min (n + count_by is_line_feed bytes) last_count

-- the position after a chunk: the bytes after its last LF are pending, or all bytes if there is no LF
abbrev pub fed : List ℕ → StreamPosition → StreamPosition
fed piece position = record { number = number_after position.number piece; pending = after_last is_line_feed (position.pending ++ piece) }

-- from every way to reach the old position, these bytes lead on to the new one
abbrev pub GoesOnBy : List ℕ → StreamPosition → StreamPosition → Type 0
GoesOnBy bytes old new = (before : List ℕ) (first : StreamPosition) → old ≡ fed before first → new ≡ fed (before ++ bytes) first

-- the position after the last line is finished
abbrev pub ended : StreamPosition → StreamPosition
ended position = record { number = if length position.pending == 0 then position.number else one_more position.number; pending = [] }

-- the next byte is not an LF
abbrev pub GoesOn : List ℕ → Type 0
GoesOn bytes = (b : ℕ) × (rest : List ℕ) × (bytes ≡ b ∷ rest) × (is_line_feed b ≡ false)

-- the remaining lines: those of the pending bytes and of the rest of the input file, then those of other input files
abbrev pub to_come : List ℕ → StreamPosition → List ℕ → List Line → List Line
to_come name position rest more = lines_from name position.number (position.pending ++ rest) ++ more

-- For a tree, a prefix and the name of the input file.
module _ (tree : TreeFacts) (prefix : Notation) (name : List ℕ) where
  -- For any bytes that follow: reading the chunk and these bytes from the old position and input gives these warnings, then what reading these bytes
  -- from the new position and input gives.
  abbrev pub ReadsPiece : List ℕ → StreamPosition → StreamPosition → UserInput → UserInput → List ℕ → Type 0
  ReadsPiece piece old new before after warned =
      (rest : List ℕ) (more : List Line) →
      reading tree prefix before (to_come name old (piece ++ rest) more) ≡ with_warnings warned (reading tree prefix after (to_come name new rest more))

  -- the chunk was read, and its warnings were added
  abbrev pub Feeds : List ℕ → StreamPosition → StreamPosition → UserInput → UserInput → List ℕ → List ℕ → Type 0
  Feeds piece old new before after told told_after =
      (warned : List ℕ) × (told_after ≡ told ++ warned) × ReadsPiece piece old new before after warned

  -- For any bytes that follow: the line at this position is too long.
  abbrev pub MeetsLongLine : List ℕ → StreamPosition → UserInput → Type 0
  MeetsLongLine left position input =
      (rest : List ℕ) (more : List Line) →
      reading tree prefix input (to_come name position (left ++ rest) more)
      ≡ record { input = input; warned = []; stopped = Some (record { stream = name; number = position.number }) }

  -- Why a reader stops before the bytes that are left. It runs out of memory only if bytes are left.
  abbrev pub StopsBecause : InputFault → List ℕ → StreamPosition → UserInput → Type 0
  StopsBecause (InputLineTooLong n) left position input =
      (n ≡ position.number) × (length position.pending ≡ longest_input_line) × GoesOn left × MeetsLongLine left position input
  StopsBecause Memory left position input = 0 < length left

  -- The reader has read exactly the lines before the one that failed, added their warnings, and stays there.
  pub record Refuses (fault : InputFault) (piece : List ℕ) (old new : StreamPosition) (before after : UserInput) (told told_after : List ℕ) : Type 0 where
    pub done : List ℕ
    pub left : List ℕ
    pub warned : List ℕ
    pub split : piece ≡ done ++ left
    pub stands : new ≡ fed done old
    pub goes : ReadsPiece done old new before after warned
    pub tells : told_after ≡ told ++ warned
    pub because : StopsBecause fault left new after

  -- For any lines that follow: the last line is finished, and its warning added.
  abbrev pub EndsStream : StreamPosition → UserInput → UserInput → List ℕ → Type 0
  EndsStream old before after warned =
      (more : List Line) →
      reading tree prefix before (lines_from name old.number old.pending ++ more) ≡ with_warnings warned (reading tree prefix after more)

  abbrev pub FinishesStream : StreamPosition → UserInput → UserInput → List ℕ → List ℕ → Type 0
  FinishesStream old before after told told_after =
      (warned : List ℕ) × (told_after ≡ told ++ warned) × EndsStream old before after warned

-- The last line could not be finished, and no warning was added: there was not enough memory, and bytes are pending.
abbrev pub FailsToEnd : InputFault → StreamPosition → List ℕ → List ℕ → Type 0
FailsToEnd (InputLineTooLong n) position told told_after = ⊥
FailsToEnd Memory position told told_after = (told_after ≡ told) × (0 < length position.pending)
