-- Trusted: A table of values by symbol number. Some places may be empty.
use Rattle.std.specs.Prelude.{List, None, Option, Some, slice_index_or, ℕ}
use Rattle.kc_language.specs.{Expressions.{SymbolValue, TextValue, Truth}, Symbols.TreeFacts, Values.{facts, name, type_in}, declared.expressions.{SymId.SymId, SymbolType.SymbolType, Tri.TheVariants.N}}
use Rattle.kc_expr.specs.Value.{value_by_type}
use Rattle.kc_language.specs.declared.expressions.Tri as tri
use Rattle.kc_values.specs.declared.table.Value.{Value}
use Rattle.kc_values.specs.declared.table.Value.TheVariants as value

abbrev pub value_in : List (Option Value) → SymId → Option Value
value_in values s = slice_index_or values s.0 None

-- an empty place reads as n, or as the symbol's name if a text is wanted
abbrev pub tri_in : Option Value → tri.Tri
tri_in None = N
tri_in (Some (value.Truth t)) = t
tri_in (Some (value.Text v)) = N

abbrev pub text_in : Option Value → List ℕ → List ℕ
text_in None name = name
text_in (Some (value.Truth t)) name = name
text_in (Some (value.Text v)) name = v.items

-- what a value of the code means for a symbol of this type
abbrev pub known_value : SymbolType → Value → SymbolValue
known_value symbol_type (value.Truth t) = Truth t
known_value symbol_type (value.Text v) = TextValue symbol_type v.items

-- what the values say about each symbol
abbrev pub known_in : TreeFacts → List (Option Value) → SymId → SymbolValue
known_in tree values s = value_by_type (type_in (facts tree s)) (tri_in (value_in values s)) (text_in (value_in values s) (name tree s))
