-- For proofs: Attributes that give no diagnostic, as the type of their symbol shows.
use Rattle.std.specs.Prelude.{Bool, List, false, not, true, ◌&&◌}
use Rattle.kc_language.specs.{Statements.{ConfigLine, DefLine, DefaultLine, ImplyLine, Numbered, PromptLine, SelectLine, TypeLine}, Symbols.same_type, declared.{expressions.SymbolType.SymbolType, symbols.MenuEntry.MenuEntry}}
use Rattle.kc_language.specs.declared.expressions.SymbolType.TheVariants as symbol_type
use Rattle.kc_language.specs.declared.symbols.MenuEntry.TheVariants as menu_entry
use Rattle.kc_tree.specs.declared.rows.Symbol.{Symbol}
use Rattle.kc_build.specs.SymbolRows.{type_by}

-- the type of the symbol of an entry
abbrev pub own_type : List Symbol → MenuEntry → SymbolType
own_type symbols (menu_entry.Symbol t) = type_by symbols t
own_type symbols _ = symbol_type.Undefined

-- whether a symbol of this type is a bool or tristate
abbrev pub is_truth_type : SymbolType → Bool
is_truth_type symbol_type.Bool = true
is_truth_type symbol_type.Tristate = true
is_truth_type _ = false

-- an attribute of an entry whose symbol has this type; `prompted` says whether there is a prompt before it
abbrev pub is_quiet : SymbolType → Bool → Numbered → Bool
is_quiet k prompted (ConfigLine t) = false
is_quiet k prompted (TypeLine o p) = not prompted && same_type o k
is_quiet k prompted (PromptLine p) = not prompted
is_quiet k prompted (DefaultLine v w) = is_truth_type k
is_quiet k prompted (DefLine o v w) = same_type o k && is_truth_type k
is_quiet k prompted (SelectLine t w) = false
is_quiet k prompted (ImplyLine t w) = false
is_quiet k prompted _ = true
