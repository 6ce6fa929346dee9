-- For proofs: The members of choices in a well-formed tree.
use Rattle.std.specs.{List.Contains, Prelude.{Some, ℕ, ◌<◌, ◌≡◌}}
use Rattle.kc_language.specs.{Symbols.{ChoiceFacts, SymbolFacts, TreeFacts}, Values.{choice_at, facts, name_count}, declared.expressions.{SymId.SymId, SymbolType.TheVariants.Bool as IsBool}}

-- a member of a choice is a symbol of that choice
abbrev pub MembersAreTheirs : TreeFacts → Type 0
MembersAreTheirs tree =
    (c : ℕ) (f : ChoiceFacts) (m : SymId) → choice_at tree c ≡ Some f → Contains f.members m →
    (m.0 < name_count tree) × ((g : SymbolFacts) × (facts tree m ≡ Some g) × (g.choice ≡ Some c))

-- a symbol of a choice is a bool
abbrev pub MembersAreBools : TreeFacts → Type 0
MembersAreBools tree = (s : SymId) (g : SymbolFacts) (c : ℕ) → facts tree s ≡ Some g → g.choice ≡ Some c → g.symbol_type ≡ IsBool
