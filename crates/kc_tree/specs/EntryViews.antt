-- Trusted: The entries of a tree by themselves, and their positions among all its lines. Entries are counted from 0.
use Rattle.std.specs.{List.range_with_len, Option.option_and_then, Prelude.{Bool, List, None, Option, Some, [], false, filter, length, map, option_map, slice_get, suc, true, ℕ, ◌+◌, ◌-◌}}
use Rattle.kc_language.specs.{Expansion.{defined_name, numbers}, Statements.{ChoiceLine, Numbered, statements}, Symbols.is_symbol_of, declared.expressions.SymId.SymId}
use Rattle.kc_entries.specs.{Entries.{lines_in, own_of, start_at}, StatementViews.{attribute_view, head_view}, declared.entries.{AttributeLine.AttributeLine, Entries.Entries, Entry.Entry}}
use Rattle.kc_tree.specs.Stored.{unstored}

-- the statements of attributes
abbrev pub statements_of : List AttributeLine → List Numbered
statements_of = map (λ a. attribute_view a.attribute)

-- the line that begins one of these entries
abbrev pub head_in : List Entry → ℕ → Option Numbered
head_in entries e = option_map (λ (x : Entry). head_view x.head) (slice_get entries e)

-- whether a line begins a choice
abbrev pub is_choice_line : Option Numbered → Bool
is_choice_line (Some ChoiceLine) = true
is_choice_line _ = false

module _ (es : Entries) where
  -- the statements of all lines, in order
  abbrev pub statements_in : List Numbered
  statements_in = statements (lines_in es)

  -- the number of entries; their numbers
  abbrev pub entry_count : ℕ
  entry_count = length es.first_lines.items

  abbrev pub entry_numbers : List ℕ
  entry_numbers = numbers entry_count

  -- the line that begins an entry; the symbol that it defines; whether it begins a choice
  abbrev pub head_at : ℕ → Option Numbered
  head_at e = head_in es.first_lines.items e

  abbrev pub entry_symbol : ℕ → Option SymId
  entry_symbol e = option_and_then defined_name (head_at e)

  abbrev pub begins_choice : ℕ → Bool
  begins_choice e = is_choice_line (head_at e)

  -- the attributes of an entry; their statements; the statement of the attribute with this number among all attributes
  abbrev pub own_attributes : ℕ → List AttributeLine
  own_attributes e = elim (slice_get es.first_lines.items e) [ None ↦ [] | Some x ↦ own_of x (start_at es (suc e)) es.attributes.items ]

  abbrev pub said_by : ℕ → List Numbered
  said_by e = statements_of (own_attributes e)

  abbrev pub attribute_at : ℕ → Option Numbered
  attribute_at a = option_map (λ (l : AttributeLine). attribute_view l.attribute) (slice_get es.attributes.items a)

  -- the index of an entry's first line among all lines: all lines of the entries before it come before it
  abbrev pub index_of : ℕ → ℕ
  index_of e = e + (start_at es e - start_at es 0)

  -- the same for the number of an entry as it is stored; the top has no index
  abbrev pub index_at : ℕ → Option ℕ
  index_at at = option_and_then (λ e. option_map (λ (x : Entry). index_of e) (slice_get es.first_lines.items e)) (unstored at)

  -- the entries that define a symbol, from entry e on
  abbrev pub definitions_from : SymId → ℕ → List ℕ
  definitions_from s e = filter (λ k. is_symbol_of s (entry_symbol k)) (range_with_len e (entry_count - e))
