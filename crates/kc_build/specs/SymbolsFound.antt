-- For proofs: The rows of symbols, while the definitions and then the choices are found.
use Rattle.std.specs.{List.{filter_map, flat_map, list_any}, Option.option_or, Prelude.{Bool, List, None, Option, Some, filter, length, map, option_map, slice_get, suc, unwrap_or, ℕ, ◌<◌, ◌≡◌, ◌≤◌}}
use Rattle.kc_language.specs.{Expansion.numbers, Expressions.{same_symbol, symbol}, Symbols.{listed, stated_type}, declared.{expressions.{SymId.SymId, SymbolType.SymbolType}, symbols.ChoiceId.ChoiceId}}
use Rattle.kc_language.specs.declared.expressions.SymbolType.TheVariants as symbol_type
use Rattle.kc_entries.specs.{PartsOfSymbols.first_of, declared.entries.Entries.Entries}
use Rattle.kc_tree.specs.{EntryViews.{definitions_from, entry_symbol, said_by}, Stored.stored, declared.rows.{Choice.Choice, EntryId.EntryId, EntryPlace.EntryPlace, Symbol.Symbol}}

-- a symbol about which nothing is known
abbrev pub unknown : Symbol
unknown = record {
  symbol_type = symbol_type.Undefined;
  choice = None;
  first = record { 0 = 0 };
  last_select = record { 0 = 0 };
  last_imply = record { 0 = 0 };
}

-- the row with one more definition, before the others, which may give a type
abbrev pub with_definition : EntryId → Option SymbolType → Symbol → Symbol
with_definition at given row = record row { symbol_type = unwrap_or given row.symbol_type; first = at }

module _ (es : Entries) where
  -- the first type that the entries from number i on give a symbol
  abbrev pub type_from : SymId → ℕ → Option SymbolType
  type_from s i = first_of (filter_map stated_type (flat_map (said_by es) (definitions_from es s i)))

  -- the row of symbol s, from the entries from number i on
  abbrev pub row_from : ℕ → ℕ → Symbol
  row_from i s = record unknown {
    symbol_type = unwrap_or (type_from (symbol s) i) symbol_type.Undefined;
    first = record { 0 = stored (first_of (definitions_from es (symbol s) i)) };
  }

  abbrev pub AreRowsFrom : ℕ → ℕ → List Symbol → Type 0
  AreRowsFrom i count rows = (length rows ≡ count) × ((s : ℕ) (row : Symbol) → slice_get rows s ≡ Some row → row ≡ row_from i s)

  -- each definition from number i on leads to the next one of its symbol
  abbrev pub AreLinkedFrom : ℕ → List EntryPlace → Type 0
  AreLinkedFrom i places = (e : ℕ) (p : EntryPlace) (s : SymId) → i ≤ e → slice_get places e ≡ Some p → entry_symbol es e ≡ Some s →
      p.next.0 ≡ stored (first_of (definitions_from es s (suc e)))

-- a place without its next definition
abbrev pub unlinked : EntryPlace → EntryPlace
unlinked p = record p { next = record { 0 = 0 } }

-- the places are unchanged, except for the next definitions
abbrev pub AreSamePlaces : List EntryPlace → List EntryPlace → Type 0
AreSamePlaces old new = map unlinked new ≡ map unlinked old

-- ---- Choices
-- each member has a row
abbrev pub AreMembersThere : ℕ → List Choice → Type 0
AreMembersThere count choices = (k : ℕ) (c : Choice) (j : ℕ) (s : SymId) → slice_get choices k ≡ Some c → slice_get c.members.items j ≡ Some s → s.0 < count

-- whether choice k lists a symbol; the first choice below k that does; the first of all choices that does
abbrev pub lists : List Choice → SymId → ℕ → Bool
lists choices s k = list_any (λ (c : Choice). list_any (same_symbol s) c.members.items) (listed (slice_get choices k))

abbrev pub choice_before : List Choice → ℕ → SymId → Option ChoiceId
choice_before choices k s = option_map (λ j. record { 0 = j }) (first_of (filter (lists choices s) (numbers k)))

abbrev pub first_choice : List Choice → SymId → Option ChoiceId
first_choice choices = choice_before choices (length choices)

-- a member has its first choice, and the type bool if it has none
abbrev pub bool_without : SymbolType → SymbolType
bool_without symbol_type.Undefined = symbol_type.Bool
bool_without k = k

abbrev pub as_member : Option ChoiceId → Symbol → Symbol
as_member None row = row
as_member (Some k) row = record row { symbol_type = bool_without row.symbol_type; choice = option_or row.choice (Some k) }

abbrev pub AreMembersOf : List Choice → List Symbol → List Symbol → Type 0
AreMembersOf choices old new =
    (length new ≡ length old) × ((s : ℕ) (row : Symbol) → slice_get old s ≡ Some row → slice_get new s ≡ Some (as_member (first_choice choices (symbol s)) row))
