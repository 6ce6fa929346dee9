-- Trusted: 2. Lines: the physical lines of a Kconfig file, the logical lines that `\` joins them to, and where a help text ends.
-- Help texts are those of the kernel's kconfig-language document ("Menu attributes"); the details are our own.
use Rattle.std.specs.{List.{flat_map, last_or, list_all, slice_split}, Option.{option_map_or}, Prelude.{Bool, IsTrue, List, None, Option, Some, Some, [], false, if◌then◌else◌, length, min, nat_le, slice_index, take, true, ℕ, ◌%◌, ◌&&◌, ◌++◌, ◌+◌, ◌-◌, ◌==◌, ◌^◌, ◌||◌, ◌∷◌, ◌<◌, ◌≡◌, ◌≤◌}, Str.Lines.{strip_carriage_return}}
use Rattle.kc_language.specs.{Text.{byte, longest_line}, Tokens.{is_blank}, declared.{tokens.TextFault.TextFault}}

-- A physical line ends at a line feed.
abbrev pub is_line_feed : ℕ → Bool
is_line_feed b = b == byte "\n"

-- Whole lines: no bytes, or the last one is a line feed.
abbrev pub is_whole_lines : List ℕ → Bool
is_whole_lines bytes = elim (last_or None bytes) [ None ↦ true | Some b ↦ is_line_feed b ]

-- A physical line without its line feed, and whether it had one.
pub record Physical : Type 0 where
  pub text : List ℕ
  pub ended : Bool

-- A file is cut at its line feeds. One carriage return before a line feed is dropped. The last part is no line if it is empty.
abbrev pub lines_of_parts : List (List ℕ) → List Physical
lines_of_parts [] = []
lines_of_parts (x ∷ []) = if length x == 0 then [] else record { text = x; ended = false } ∷ []
lines_of_parts (x ∷ y ∷ more) = record { text = strip_carriage_return x; ended = true } ∷ lines_of_parts (y ∷ more)

unfoldable pub physical_lines : List ℕ → List Physical
physical_lines file = lines_of_parts (slice_split is_line_feed file)

-- A physical line continues on the next one if it has a line feed and a `\` before it.
abbrev pub continues : Physical → Bool
continues l = l.ended && slice_index l.text (length l.text - 1) == byte "\\"

-- There is at least one line, and each line except the last continues.
abbrev pub AreJoined : List Physical → Type 0
AreJoined [] = ⊥
AreJoined (l ∷ []) = Unit {0}
AreJoined (l ∷ m ∷ more) = IsTrue (continues l) × AreJoined (m ∷ more)

-- The first logical line is `front`: as many physical lines as can be joined. `after` follows it.
pub record IsFirstLine (lines front after : List Physical) : Type 0 where
  pub split : lines ≡ front ++ after
  pub joined : AreJoined front
  pub longest : (other rest : List Physical) → lines ≡ other ++ rest → AreJoined other → length other ≤ length front

-- The text of a logical line: the texts of its physical lines, without the `\` of each that continues.
abbrev pub joined_text : List Physical → List ℕ
joined_text = flat_map (λ l. if continues l then take (length l.text - 1) l.text else l.text)

-- The unread part of a file: its lines, the number of the first of them, and the reported error, if any.
pub record UnreadLines : Type 0 where
  pub lines : List Physical
  pub number : ℕ
  pub refusal : Option TextFault

abbrev pub unread_lines : List ℕ → ℕ → UnreadLines
unread_lines rest number = record { lines = physical_lines rest; number = number; refusal = None }

-- `TakesLine`: the next logical line has this text, and `new` is unread after it (line numbers stay at 2^32 - 1). `IsTooLong`: that line is too long.
abbrev pub TakesLine : UnreadLines → UnreadLines → List ℕ → Type 0
TakesLine old new text = (front : List Physical) × IsFirstLine old.lines front new.lines × (text ≡ joined_text front) × (length text ≤ longest_line)
    × (new.number ≡ min (old.number + length front) (2 ^ 32 - 1)) × (new.refusal ≡ None)

abbrev pub IsTooLong : UnreadLines → Type 0
IsTooLong old = (front after : List Physical) × IsFirstLine old.lines front after × (longest_line < length (joined_text front))

-- The column of the first byte that is not a blank, counted on from `at`: a tab goes to the next multiple of 8.
abbrev pub column : ℕ → List ℕ → ℕ
column at [] = at
column at (b ∷ bs) = if b == byte " " then column (at + 1) bs else if b == byte "\t" then column (at + (8 - at % 8)) bs else at

-- A line of a help text is blank or indented at least as much as the text's first line. Before that first line, only blank lines belong to it.
abbrev pub is_help_line : Option ℕ → Physical → Bool
is_help_line indent l = list_all is_blank l.text || option_map_or (λ n. nat_le n (column 0 l.text)) indent false

-- The lines from the first one that fails the test.
abbrev pub from_other : (Physical → Bool) → List Physical → List Physical
from_other p [] = []
from_other p (l ∷ ls) = if p l then from_other p ls else l ∷ ls

-- What follows a help text. Blank lines are skipped, and the next line gives the indentation. If that line is not indented, the help text is empty.
abbrev pub after_text : List Physical → List Physical
after_text [] = []
after_text (l ∷ ls) = if column 0 l.text == 0 then l ∷ ls else from_other (is_help_line (Some (column 0 l.text))) (l ∷ ls)

abbrev pub after_help : List Physical → List Physical
after_help ls = after_text (from_other (is_help_line None) ls)
