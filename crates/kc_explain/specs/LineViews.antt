-- For proofs: Lines of a tree, without their layout in memory, and their positions among all lines.
use Rattle.std.specs.Prelude.{◌≡◌, ℕ, List, map, Option, Some, option_map, slice_get}
use Rattle.std.specs.Option.{option_and_then}
use Rattle.std.specs.List.{flat_map}
use Rattle.kc_expr.specs.When.{when_view}
use Rattle.kc_language.specs.Expressions.{Form}
use Rattle.kc_outcome.specs.Explanations.{Said}
use Rattle.kc_language.specs.Statements.{Located, Numbered}
use Rattle.kc_language.specs.declared.expressions.SymId.{SymId}
use Rattle.kc_language.specs.Symbols.{listed, target_of}
use Rattle.kc_entries.specs.Entries.{attribute_line, first_line, lines_in, own_lines}
use Rattle.kc_entries.specs.StatementViews.{attribute_view, head_view}
use Rattle.kc_entries.specs.declared.entries.AttributeLine.{AttributeLine}
use Rattle.kc_entries.specs.declared.entries.Entry.{Entry}
use Rattle.kc_tree.specs.Layouts.{entry_at, index_at, own_at, symbol_at}
use Rattle.kc_tree.specs.Stored.{unstored}
use Rattle.kc_tree.specs.declared.layout.Layout.{Layout}
use Rattle.kc_tree.specs.declared.rows.EntryId.{EntryId}
use Rattle.kc_tree.specs.declared.rows.Selector.{Selector}
use Rattle.kc_explain.specs.declared.lines.Line.{Line}
use Rattle.kc_explain.specs.declared.lines.LineStatement.{LineStatement}
use Rattle.kc_explain.specs.declared.lines.LineStatement.TheVariants as line
use Rattle.kc_explain.specs.declared.lines.TargetAt.{TargetAt}

-- the content of a line; the line with its location
abbrev pub said_by : LineStatement → Numbered
said_by (line.First h) = head_view h.now
said_by (line.Attribute a) = attribute_view a.now

abbrev pub line_view : Line → Located Numbered
line_view l = record { file = l.file.now; line = l.number; statement = said_by l.statement }

-- a line that selects or implies: the symbol and the entry that it belongs to, the line, and its condition
pub record Target : Type 0 where
  pub by : SymId
  pub entry : Option ℕ
  pub line : Option (Located Numbered)
  pub when : Option Form

-- the same for a line among these lines
abbrev pub target_in : List (Located Numbered) → SymId × Said (Option Form) → Target
target_in lines t = record { by = t.0; entry = Some (t.1).entry; line = slice_get lines (t.1).at; when = (t.1).what }

module _ (l : Layout) where
  -- all lines; the line that begins an entry, given by its number as it is stored; the lines of its attributes
  abbrev pub lines_of : List (Located Numbered)
  lines_of = lines_in l.entries

  abbrev pub line_at : ℕ → Option (Located Numbered)
  line_at at = option_map first_line (entry_at l at)

  abbrev pub own_of : ℕ → List (Located Numbered)
  own_of at = flat_map (λ (x : Entry). own_lines x (own_at l at)) (listed (entry_at l at))

  -- these entries begin at these indices; the list for the index of an entry
  abbrev pub AreAt : List EntryId → List ℕ → Type 0
  AreAt entries is = map (λ (e : EntryId). index_at l e.0) entries ≡ map Some is

  abbrev pub at_entry : {X : Type 0} → (ℕ → List X) → EntryId → List X
  at_entry f e = flat_map f (listed (index_at l e.0))

  abbrev pub target_view : TargetAt → Target
  target_view t = record { by = t.by; entry = index_at l t.entry.0; line = Some (line_view t.line); when = when_view t.when.now }

  -- the attribute with a number; what the row of a line that selects or implies leads to
  abbrev pub attribute_in : ℕ → Option AttributeLine
  attribute_in id = option_and_then (slice_get l.entries.attributes.items) (unstored id)

  abbrev pub target_by : EntryId → Entry → AttributeLine → SymId → Option Target
  target_by e x a s =
      option_map (λ t. record { by = s; entry = index_at l e.0; line = Some (attribute_line x.file.value.items a.line a.attribute); when = t.2 })
      (target_of (attribute_view a.attribute))

  abbrev pub target_at : EntryId → Entry → ℕ → Option Target
  target_at e x id = option_and_then (λ a. option_and_then (target_by e x a) (symbol_at l e.0)) (attribute_in id)

  abbrev pub target_of_row : Selector → Option Target
  target_of_row r = option_and_then (λ x. target_at r.entry x r.attribute.0) (entry_at l r.entry.0)
