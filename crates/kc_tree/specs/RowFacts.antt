-- Trusted: The facts that the rows of symbols and choices hold by themselves.
use Rattle.std.specs.{Borrow.Bor, Prelude.{List, None, Option, Some, map, ◌≡◌}}
use Rattle.kc_tree.specs.{Places.mode_view, declared.rows.{Choice.Choice, Symbol.Symbol}}
use Rattle.kc_language.specs.Symbols.{ChoiceFacts, SymbolFacts}

-- a row has the type and the choice of its symbol
pub record HasTypeAndChoice (f : SymbolFacts) (s : Symbol) : Type 0 where
  pub symbol_type : s.symbol_type ≡ f.symbol_type
  pub choice : mode_view s.choice ≡ f.choice

abbrev pub IsSymbolRowOf : Option SymbolFacts → Option (Bor Symbol) → Type 0
IsSymbolRowOf o None = o ≡ None
IsSymbolRowOf o (Some s) = (f : SymbolFacts) × (o ≡ Some f) × HasTypeAndChoice f s.now

-- the same number of choices, with the same members
abbrev pub AreChoicesOf : List ChoiceFacts → List Choice → Type 0
AreChoicesOf facts choices = map (λ (f : ChoiceFacts). f.members) facts ≡ map (λ (c : Choice). c.members.items) choices
