-- For proofs: What is known of a side of a relation, and values of symbols where one of them is assumed to have a value.
use Rattle.std.specs.Prelude.{All, Bool, None, Option, Some, if◌then◌else◌, slice_get, ◌==◌, ◌≡◌, ◌⊎◌}
use Rattle.kc_language.specs.{Expressions.{Form, Leaf, Related, Symbol, SymbolValue, Text, symbols, truth_of_value}, Values.{facts, type_in}, declared.{expressions.{SymId.SymId, SymbolType.{SymbolType, TheVariants.{Bool as IsBool, Tristate, Undefined}}, Tri.{TheVariants.N, Tri}}, tokens.Op.Op}}
use Rattle.kc_possible.specs.{Bounds.IsWithin, Possible.Allows, declared.{bounds.Bounds.Bounds, expression.Side.{Side, TheVariants.{Fixed, Open, Unknown}}, possible.Possible.Possible}}

-- the lowest value of a symbol; of one that has no place n
abbrev pub lowest : Possible → SymId → Tri
lowest p s = elim (slice_get p.symbols.items s.0) [ None ↦ N | Some b ↦ b.low ]

abbrev pub assumed_tri : Possible → Option (SymId × Tri) → SymId → Tri
assumed_tri p None s = lowest p s
assumed_tri p (Some (assumed, value)) s = if assumed.0 == s.0 then value else lowest p s

-- Whether the type is bool or tristate.
abbrev pub is_truth : SymbolType → Bool
is_truth k = elim k [ IsBool ↦ Bool.true | Tristate ↦ Bool.true | _ ↦ Bool.false ]

-- the symbol has no type, or is a bool or tristate with this one value
pub data IsFixed (p : Possible) (s : SymId) : Type 0 where
  untyped : type_in (facts p.laid.tree.now s) ≡ Undefined → IsFixed p s
  single : is_truth (type_in (facts p.laid.tree.now s)) ≡ Bool.true → ((known : SymId → SymbolValue) → Allows p known → truth_of_value (known s) ≡ lowest p s) → IsFixed p s

-- A side that is fixed is a text or such a symbol. One that is open is a bool or tristate symbol.
abbrev pub IsSide : Possible → Leaf → Side → Type 0
IsSide p (Text bytes) Fixed = Unit {0}
IsSide p (Symbol s) Fixed = IsFixed p s
IsSide p (Text bytes) (Open id) = ⊥
IsSide p (Symbol s) (Open id) = (s ≡ id) × (is_truth (type_in (facts p.laid.tree.now s)) ≡ Bool.true)
IsSide p l Unknown = Unit {0}

-- a relation of these sides
abbrev pub IsRelation : Form → Leaf → Leaf → Type 0
IsRelation f a b = (op : Op) × (f ≡ Related op a b)

-- each symbol that the expression names is fixed; or it is this one, a bool or tristate
abbrev pub IsSettled : Possible → Form → Type 0
IsSettled p f = All (IsFixed p) (symbols p.laid.tree.now.modules f)

abbrev pub DependsOnlyOn : Possible → SymId → Form → Type 0
DependsOnlyOn p id f = (is_truth (type_in (facts p.laid.tree.now id)) ≡ Bool.true) × All (λ s. (s ≡ id) ⊎ IsFixed p s) (symbols p.laid.tree.now.modules f)

-- whatever values the symbols may have where this one has that value, this is between the bounds
abbrev pub CoversWhere : Possible → Bounds → SymId → Tri → ((SymId → SymbolValue) → Tri) → Type 0
CoversWhere p b id t worth = (known : SymId → SymbolValue) → Allows p known → truth_of_value (known id) ≡ t → IsWithin b (worth known)
