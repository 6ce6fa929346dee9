-- Trusted: The long lines of a file.
use Rattle.std.specs.Prelude.{All, IfSome, List, Option, drop, length, take, ℕ, ◌++◌, ◌-◌, ◌∷◌, ◌≡◌, ◌≤◌}
use Rattle.bstr.specs.Find.{IsFirstByte}
use Rattle.kc_language.specs.Lines.{Physical, column, is_line_feed, physical_lines}
use Rattle.kc_text.specs.{PartsOfLines.is_blank_line, declared.{help.LineStart.LineStart, long_lines.LongLine.LongLine}}

-- the last n bytes
abbrev pub last_bytes : ℕ → List ℕ → List ℕ
last_bytes n bytes = drop (length bytes - n) bytes

-- the file ends with these bytes
abbrev pub IsEndOf : List ℕ → List ℕ → Type 0
IsEndOf file after = after ≡ last_bytes (length after) file

-- How a line of this text begins. The column of any text after these blanks is counted on from their column.
pub record IsLineStart (text : List ℕ) (start : LineStart) : Type 0 where
  pub within : start.blanks ≤ length text
  pub column_is : start.column ≡ column 0 text
  pub passed : (more : List ℕ) → column 0 (take start.blanks text ++ more) ≡ column start.column more
  pub blank : start.is_blank ≡ is_blank_line text

-- how a line begins, if that is known
abbrev pub KnowsStart : List ℕ → Option LineStart → Type 0
KnowsStart text start = IfSome start (IsLineStart text)

-- the bytes begin with this line
pub record IsLong (rest : List ℕ) (l : LongLine) : Type 0 where
  pub feed_is : IsFirstByte is_line_feed rest l.feed
  pub begins : (line : Physical) (more : List Physical) → physical_lines rest ≡ line ∷ more → IsLineStart line.text l.start

-- If the file has that many bytes, its last `before` bytes begin with this line.
abbrev pub IsLongIn : List ℕ → LongLine → Type 0
IsLongIn file l = l.before ≤ length file → IsLong (last_bytes l.before file) l

abbrev pub AreLong : List ℕ → List LongLine → Type 0
AreLong file ls = All (IsLongIn file) ls
