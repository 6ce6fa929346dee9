-- Trusted: What a table says, and the rows that it is asked about.
use Rattle.std.specs.Prelude.{List, None, Option, Some, length, slice_get, slice_index_or, true, ℕ, ◌<◌, ◌≡◌}
use Rattle.kc_language.specs.{Expressions.SymbolValue, Symbols.{Condition, SymbolFacts}, Values.{GivenValue, by_type, choice_at, selected}, declared.{expressions.SymId.SymId, symbols.SelectOrImply.SelectOrImply}}
use Rattle.kc_tree.specs.{Places.names, Stored.unstored, declared.rows.{Choice.Choice, Symbol.Symbol}}
use Rattle.kc_tree.specs.Layouts as layout
use Rattle.kc_user.specs.PartsOfConfigFile.{member_place}
use Rattle.kc_values.specs.{Table.known_in, declared.table.Table.Table}

-- what a table says about each symbol
abbrev pub known_at : Table → SymId → SymbolValue
known_at t = known_in t.tree.now t.values

-- the condition of an entry as a context, by its number as it is stored
abbrev pub condition_at : Table → ℕ → Condition
condition_at t at = layout.condition_at t.layout.now at

-- the row of a symbol; the row of the choice with a number
abbrev pub IsRowOf : Table → SymId → Symbol → Type 0
IsRowOf t id s = slice_get t.layout.now.symbols.items id.0 ≡ Some s

abbrev pub IsChoiceRow : Table → ℕ → Choice → Type 0
IsChoiceRow t k c = slice_get t.layout.now.choices.items k ≡ Some c

-- the facts in a symbol's row
abbrev pub facts_in : Table → SymId → Symbol → SymbolFacts
facts_in t id s = layout.facts_of t.layout.now id.0 s

-- what the equation of a symbol outside a choice gives
abbrev pub own_value : Table → SymId → Symbol → Option GivenValue → SymbolValue
own_value t id s given = by_type t.tree.now (known_at t) id (facts_in t id s) s.symbol_type given

-- the line with a number as it is stored, if there is one, selects or implies the symbol
abbrev pub IsLineAt : Table → SelectOrImply → SymId → ℕ → Type 0
IsLineAt t w s at =
    (j : ℕ) → unstored at ≡ Some j → (j < length t.layout.now.selectors.items) × (names t.layout.now.entries t.layout.now.selectors.items w s j ≡ true)

-- if the selection of a choice is computed, it is the selection for this user's member
abbrev pub IsSelected : Table → ℕ → Option SymId → Type 0
IsSelected t c user =
    (x : Option SymId) → slice_index_or t.selections.items c None ≡ Some x → x ≡ selected t.tree.now (known_at t) (choice_at t.tree.now c) (member_place user)

-- the same for each choice
abbrev pub AreSelected : Table → List (Option SymId) → Type 0
AreSelected t users = (c : ℕ) → IsSelected t c (slice_index_or users c None)
