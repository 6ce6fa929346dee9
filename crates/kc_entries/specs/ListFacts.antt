-- Trusted: Facts about the symbols, types, choices and menus of an expanded list.
use Rattle.std.specs.{Option.option_and_then, Prelude.{Bool, List, None, Option, Some, false, filter, is_some, slice_get, true, ℕ, ◌<◌, ◌≡◌}}
use Rattle.kc_language.specs.{Expansion.numbers, Expressions.symbol, Statements.{ChoiceLine, EndMenuLine, MenuLine, Numbered}, Symbols.{enclosing_choice, is_symbol_of, stated_type, symbol_at}, declared.expressions.SymId.SymId}
use Rattle.kc_language.specs.declared.expressions.SymbolType.TheVariants as symbol_type
use Rattle.kc_entries.specs.PartsOfSymbols.{enclosing_block}

-- each defined symbol has a number below this one
abbrev pub AreBelow : ℕ → List Numbered → Type 0
AreBelow count ss = (i : ℕ) (s : SymId) → symbol_at ss i ≡ Some s → s.0 < count

-- no type line gives the type `Undefined`
abbrev pub AreTypesDefined : List Numbered → Type 0
AreTypesDefined ss = (i : ℕ) (s : Numbered) → slice_get ss i ≡ Some s → stated_type s ≡ Some symbol_type.Undefined → ⊥

-- no choice is inside another one
abbrev pub AreChoicesApart : List Numbered → Type 0
AreChoicesApart ss = (i : ℕ) → slice_get ss i ≡ Some ChoiceLine → enclosing_choice ss i ≡ None

-- whether the line begins a menu
abbrev pub is_menu_line : Option Numbered → Bool
is_menu_line (Some (MenuLine t)) = true
is_menu_line _ = false

-- each end of a menu closes a menu
abbrev pub AreMenusClosed : List Numbered → Type 0
AreMenusClosed ss = (i : ℕ) → slice_get ss i ≡ Some EndMenuLine → is_menu_line (option_and_then (slice_get ss) (enclosing_block ss i)) ≡ true

-- each end of a menu closes a block
abbrev pub AreMenusOpened : List Numbered → Type 0
AreMenusOpened ss = (i : ℕ) → slice_get ss i ≡ Some EndMenuLine → is_some (enclosing_block ss i) ≡ true

-- the definitions of a symbol before index i
abbrev pub defined_before : List Numbered → ℕ → ℕ → List ℕ
defined_before ss i s = filter (λ j. is_symbol_of (symbol s) (symbol_at ss j)) (numbers i)
