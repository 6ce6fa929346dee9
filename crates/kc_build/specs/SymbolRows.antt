-- For proofs: The rows of symbols before the lines that select or imply are known, and the warnings about lines that they give.
use Rattle.std.specs.{List.list_any, Option.option_and_then, Prelude.{Bool, List, Option, Some, is_none, option_map, slice_get, unwrap_or, ℕ, ◌&&◌, ◌==◌, ◌≡◌}}
use Rattle.kc_language.specs.{Expressions.symbol, Statements.Numbered, Symbols.{choice_of, enclosing_choice, is_first_definition_at, is_selectable, listed, menu_entry_at, type_of}, declared.{expressions.{SymId.SymId, SymbolType.SymbolType}, symbols.{ChoiceId.ChoiceId, LineWarning.LineWarning as Warning}}}
use Rattle.kc_language.specs.declared.expressions.SymbolType.TheVariants as symbol_type
use Rattle.kc_build.specs.declared.diagnostics.EntrySummary.{EntrySummary}
use Rattle.kc_tree.specs.{EntryViews.{definitions_from, statements_in}, Places.mode_view, Stored.stored, declared.rows.Symbol.Symbol}
use Rattle.kc_entries.specs.{PartsOfSymbols.{first_of, line_warnings_by}, declared.entries.Entries.Entries}

module _ (es : Entries) where
  -- the row of symbol i while no line that selects or implies it is known
  pub record IsKnownRow (i : ℕ) (row : Symbol) : Type 0 where
    pub symbol_type : row.symbol_type ≡ type_of (statements_in es) (symbol i)
    pub choice : mode_view row.choice ≡ choice_of (statements_in es) (symbol i)
    pub first : row.first.0 ≡ stored (first_of (definitions_from es (symbol i) 0))
    pub last_select : row.last_select.0 ≡ 0
    pub last_imply : row.last_imply.0 ≡ 0

  abbrev pub AreKnownRows : List Symbol → Type 0
  AreKnownRows rows = (i : ℕ) (row : Symbol) → slice_get rows i ≡ Some row → IsKnownRow i row

-- the choice and the type of a symbol, from the rows of the symbols
abbrev pub choice_by : List Symbol → SymId → Option ℕ
choice_by symbols s = option_and_then (λ (f : Symbol). mode_view f.choice) (slice_get symbols s.0)

abbrev pub type_by : List Symbol → SymId → SymbolType
type_by symbols s = unwrap_or (option_map (λ (f : Symbol). f.symbol_type) (slice_get symbols s.0)) symbol_type.Undefined

-- whether the symbol is a member of the choice, from the same rows
abbrev pub member_by : List Symbol → ℕ → SymId → Bool
member_by symbols c s = list_any (λ d. d == c) (listed (choice_by symbols s))

-- selecting or implying the symbol with this row has an effect
abbrev pub can_be_target : Symbol → Bool
can_be_target row = is_none row.choice && is_selectable row.symbol_type

-- the summary of the entry of statement i
pub record IsEntrySummary (ss : List Numbered) (i : ℕ) (p : EntrySummary) : Type 0 where
  pub entry : p.entry ≡ menu_entry_at ss i
  pub first : p.first ≡ is_first_definition_at ss i
  pub within_choice : option_map (λ (k : ChoiceId). k.0) p.within_choice ≡ enclosing_choice ss i

-- the warnings about a line, from the rows of the symbols and the summary of its entry
abbrev pub line_warnings_in : List Symbol → EntrySummary → Bool → Numbered → List Warning
line_warnings_in symbols p prompted = line_warnings_by (type_by symbols) (choice_by symbols) (member_by symbols) p.entry prompted p.first
