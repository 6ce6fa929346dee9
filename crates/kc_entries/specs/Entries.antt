-- Trusted: The lines of entries.
use Rattle.std.specs.Prelude.{List, None, Option, Some, [], drop, length, map, slice_get, suc, take, ℕ, ◌++◌, ◌+◌, ◌-◌, ◌<◌, ◌∷◌, ◌≡◌}
use Rattle.kc_entries.specs.{EntryStarts.start_of, StatementViews.{attribute_view, head_view}, declared.{entries.{AttributeLine.AttributeLine, Entries.Entries, Entry.Entry, EntryLines.EntryLines}, statement.{Attribute.Attribute, Head.Head}}}
use Rattle.kc_language.specs.{Expansion.last_of, Statements.{Located, Numbered}}

-- a line with its file and line number
abbrev pub head_line : List ℕ → ℕ → Head → Located Numbered
head_line file line h = record { file = file; line = line; statement = head_view h }

abbrev pub attribute_line : List ℕ → ℕ → Attribute → Located Numbered
attribute_line file line a = record { file = file; line = line; statement = attribute_view a }

-- the lines of an entry: its first, and its attributes
abbrev pub first_line : Entry → Located Numbered
first_line e = head_line e.file.value.items e.line e.head

abbrev pub own_lines : Entry → List AttributeLine → List (Located Numbered)
own_lines e = map (λ (a : AttributeLine). attribute_line e.file.value.items a.line a.attribute)

-- the attributes of an entry, if those of the next entry begin at index `end`
abbrev pub own_of : Entry → ℕ → List AttributeLine → List AttributeLine
own_of e end ls = take (end - e.start) (drop e.start ls)

-- the lines of entries, one entry after the other
abbrev pub lines_of : List Entry → List AttributeLine → List (Located Numbered)
lines_of [] ls = []
lines_of (e ∷ es) ls = first_line e ∷ own_lines e (own_of e (start_of es (length ls)) ls) ++ lines_of es ls

-- the lines of all entries, and those of the entries from a number on
abbrev pub lines_in : Entries → List (Located Numbered)
lines_in es = lines_of es.first_lines.items es.attributes.items

abbrev pub lines_from : Entries → ℕ → List (Located Numbered)
lines_from es i = lines_of (drop i es.first_lines.items) es.attributes.items

-- the index of the first attribute of the entry with this number; past the last entry, the number of attributes
abbrev pub start_at : Entries → ℕ → ℕ
start_at es i = start_of (drop i es.first_lines.items) (length es.attributes.items)

-- the entry has this number and its own attributes, and its lines come before those of the entries after it
pub record BeginsAt (es : Entries) (i : ℕ) (e : EntryLines) : Type 0 where
  pub first : slice_get es.first_lines.items i ≡ Some e.first.now
  pub own : e.attributes.now ≡ own_of e.first.now (start_at es (suc i)) es.attributes.items
  pub there : i < length es.first_lines.items
  pub lines : lines_from es i ≡ first_line e.first.now ∷ own_lines e.first.now e.attributes.now ++ lines_from es (i + 1)

abbrev pub IsEntryAt : Entries → ℕ → Option EntryLines → Type 0
IsEntryAt es i None = lines_from es i ≡ []
IsEntryAt es i (Some e) = BeginsAt es i e

-- the last entry is in this file
abbrev pub IsLastFile : Entries → List ℕ → Type 0
IsLastFile es file = (e : Entry) × (last_of es.first_lines.items ≡ Some e) × (e.file.value.items ≡ file)
