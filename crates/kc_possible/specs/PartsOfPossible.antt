-- For proofs: What the bounds of a part of an equation cover.
use Rattle.std.specs.{Option.option_map_or, Prelude.{All, List, Option, Some, false, length, map, slice_get, true, ℕ, ◌<◌, ◌≡◌, ◌≢◌}}
use Rattle.kc_language.specs.{Expressions.{Form, SymbolValue, TextValue, Truth, greatest, truth_of_value}, Statements.{ChoiceLine, Numbered}, Symbols.{Guarded, SymbolFacts, TreeFacts}, Values.{GivenText, GivenValue, and_value, choice_at, default_value, equation, facts, given_of, mode_of, same_given}, declared.{expressions.{SymId.SymId, SymbolType.SymbolType, Tri.{TheVariants.{M, N}, Tri}}, symbols.SelectOrImply.SelectOrImply}}
use Rattle.kc_tree.specs.Layouts.{asked_by, choice_at as choice_begun, facts_of}
use Rattle.kc_tree.specs.{Places.names, Stored.unstored, declared.{layout.Layout.Layout, rows.{Choice.Choice, Symbol.Symbol}}}
use Rattle.kc_values.specs.PartsOfValues.{member_equation}
use Rattle.kc_possible.specs.{Bounds.IsWithin, Possible.{Allows, IsTyped}, declared.{bounds.Bounds.Bounds, possible.Possible.Possible}}

-- whatever values the symbols may have, this is between the bounds
abbrev pub Covers : Possible → Bounds → ((SymId → SymbolValue) → Tri) → Type 0
Covers p b worth = (known : SymId → SymbolValue) → Allows p known → IsWithin b (worth known)

-- whatever values the symbols may have, each of these is n
abbrev pub AreOff : Possible → List SymId → Type 0
AreOff p found = All (λ s. (known : SymId → SymbolValue) → Allows p known → truth_of_value (known s) ≡ N) found

-- whatever values the symbols may have, and whatever the user gives, the equation of this one does not give m
abbrev pub IsNeverM : Possible → SymId → Type 0
IsNeverM p s = (user : Option GivenValue) (known : SymId → SymbolValue) → Allows p known → equation p.laid.tree.now known s (facts p.laid.tree.now s) user ≢ Truth M

-- whatever values the symbols may have, and whatever the user gives, the equation of the symbol with this row gives this text
abbrev pub IsOnlyText : Possible → SymId → Symbol → List ℕ → Type 0
IsOnlyText p s row text = (user : Option GivenValue) (known : SymId → SymbolValue) → Allows p known →
    equation p.laid.tree.now known s (Some (facts_of p.laid.layout.now s.0 row)) user ≡ TextValue row.symbol_type text

-- and never this text
abbrev pub IsNoText : Possible → SymId → Symbol → List ℕ → Type 0
IsNoText p s row text = (user : Option GivenValue) (known : SymId → SymbolValue) → Allows p known →
    same_given (GivenText text) (given_of (equation p.laid.tree.now known s (Some (facts_of p.laid.layout.now s.0 row)) user)) ≡ false

-- the truth value of a symbol of this type is between the bounds
abbrev pub IsOfType : SymbolType → Bounds → Type 0
IsOfType k b = (called : List ℕ) (v : SymbolValue) → IsTyped k called v → IsWithin b (truth_of_value v)

-- the facts of a symbol, from its row
abbrev pub IsRowOf : Possible → SymId → Symbol → Type 0
IsRowOf p id s = slice_get p.laid.layout.now.symbols.items id.0 ≡ Some s

abbrev pub facts_in : Possible → SymId → Symbol → SymbolFacts
facts_in p id s = facts_of p.laid.layout.now id.0 s

abbrev pub IsChoiceRow : Possible → ℕ → Choice → Type 0
IsChoiceRow p k c = slice_get p.laid.layout.now.choices.items k ≡ Some c

-- the line with a number as it is stored, if there is one, selects or implies the symbol
abbrev pub IsLineAt : Possible → SelectOrImply → SymId → ℕ → Type 0
IsLineAt p w s at = (j : ℕ) → unstored at ≡ Some j →
    (j < length p.laid.layout.now.selectors.items) × (names p.laid.layout.now.entries p.laid.layout.now.selectors.items w s j ≡ true)

-- the value of a member, and the greatest that defaults may give
abbrev pub member_value : TreeFacts → (SymId → SymbolValue) → SymId → ℕ → Option GivenValue → Tri
member_value tree known s c user = member_equation tree known s c user

abbrev pub greatest_default : TreeFacts → (SymId → SymbolValue) → List (Guarded Form) → Tri
greatest_default tree known gs = greatest (map (λ g. default_value tree known (Some g)) gs)

module _ (tree : TreeFacts) (l : Layout) (known : SymId → SymbolValue) where
  -- the mode of the choice that an entry begins; n of another entry
  abbrev pub mode_at : ℕ → Tri
  mode_at at = option_map_or (λ k. mode_of tree known (choice_at tree k)) (choice_begun l at) N

  -- what an entry with this first line and these attributes asks of what stands in it: a choice its mode
  abbrev pub asked_value : ℕ → Numbered → List Numbered → Tri
  asked_value at ChoiceLine own = mode_at at
  asked_value at head own = and_value tree known (asked_by (Some head) own)
