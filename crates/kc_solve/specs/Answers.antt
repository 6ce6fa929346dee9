-- Trusted: What a solution returns for symbols, conditions, entries and choices.
use Rattle.std.specs.{List.flat_map, Prelude.{Bool, List, None, Option, Some, ℕ, ◌≡◌}}
use Rattle.kc_language.specs.{ConfigFile.place_at, Expressions.{SymbolValue, truth_of_value}, Symbols.{SymbolFacts, TreeFacts, listed}, Texts.{Solution, known, value_of}, Values.{conditions, facts, type_in}, declared.expressions.{SymId.SymId, SymbolType.SymbolType, Tri.{TheVariants.N, Tri}}}
use Rattle.kc_expr.specs.{PartsOfExpressions.text_of_value, Value.values_by}
use Rattle.kc_language.specs.Values as values

-- the type of a symbol, its truth value and its text, as values that expressions read
abbrev pub type_of : Solution → SymId → SymbolType
type_of s id = type_in (facts s.tree id)

abbrev pub tri_of : Solution → SymId → Tri
tri_of s id = truth_of_value (known s id)

abbrev pub text_of : Solution → SymId → List ℕ
text_of s id = text_of_value (known s id)

-- the modules symbol; a plain m in a condition depends on it
abbrev pub modules_of : Solution → Option SymId
modules_of s = s.tree.modules

-- the three definitions above give what is known
abbrev pub TellsKnown : Solution → Type 0
TellsKnown s = (id : SymId) → values_by (type_of s) (tri_of s) (text_of s) id ≡ known s id

abbrev pub visibility_by : TreeFacts → (SymId → SymbolValue) → Option SymbolFacts → Tri
visibility_by tree known None = N
visibility_by tree known (Some f) = values.visibility tree known f

-- the greatest condition of a symbol's prompts (kconfiglib's `visibility`); an undefined name has none
abbrev pub visibility : Solution → SymId → Tri
visibility s id = visibility_by s.tree (known s) (facts s.tree id)

-- the same for any type, but m stays m
abbrev pub prompts_condition : Solution → SymId → Tri
prompts_condition s id = conditions s.tree (known s) (flat_map (λ f. f.prompts) (listed (facts s.tree id)))

-- whether a symbol has a line in the .config
abbrev pub written : Solution → SymId → Bool
written s id = values.written s.tree (known s) id

-- the selection of a choice, with and without the user's member
abbrev pub selection : Solution → ℕ → Option SymId
selection s c = values.selection s.tree (place_at s.places) (value_of s) c

abbrev pub default_selection : Solution → ℕ → Option SymId
default_selection s c = values.default_selection s.tree (value_of s) c

-- whether a symbol has a line in the minimal file
abbrev pub differs : Solution → SymId → Bool
differs s id = values.differs s.tree (place_at s.places) (value_of s) id.0

-- whether a symbol is new
abbrev pub is_new : Solution → SymId → Bool
is_new s id = values.is_new s.tree (known s) (place_at s.places) id
