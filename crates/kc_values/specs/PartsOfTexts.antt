-- Trusted: Names for parts of the definitions of Texts.
use Rattle.std.specs.{List.flat_map, Prelude.{List, None, Option, Some, [], ℕ}}
use Rattle.kc_language.specs.{Expressions.{Form, SymbolValue, symbol, tri_text}, Symbols.{Guarded, SymbolFacts, TreeFacts, Warning}, Texts.{warnings_by_type, warnings_of}, Values.{GivenValue, SymbolPlace, UserPlace, clamped, direct, facts, known_from, name, number_text, selected_to, single_text}, declared.{expressions.{SymId.SymId, SymbolType.SymbolType, Tri.Tri}, values.Interval.Interval}}
use Rattle.kc_language.specs.declared.diagnostics.Warning.TheVariants as warning

-- a symbol is selected above its dependency
abbrev pub selected_warning : List ℕ → Tri → Tri → Warning
selected_warning name selected_to direct = warning.Selected name (tri_text selected_to) (tri_text direct)

-- a user's text is outside the range
abbrev pub user_warning : SymbolType → Interval → List ℕ → List ℕ → Warning
user_warning symbol_type r name t = warning.UserOutside name t (number_text symbol_type r.low) (number_text symbol_type r.high)

-- a default is outside the range
abbrev pub default_warning : SymbolType → Interval → List ℕ → List ℕ → Warning
default_warning symbol_type r name t =
    warning.DefaultOutside name t (number_text symbol_type r.low) (number_text symbol_type r.high) (clamped symbol_type (Some r) t)

-- the text of the first default whose condition is not n, if there is one
abbrev pub met_text : (SymId → SymbolValue) → Option (Guarded Form) → Option (List ℕ)
met_text known None = None
met_text known (Some g) = Some (single_text known g.what)

-- a member of a choice has no warning
module _ (tree : TreeFacts) (known : SymId → SymbolValue) where
  abbrev pub warnings_by_choice : List ℕ → SymbolFacts → Option ℕ → Option GivenValue → List Warning
  warnings_by_choice called f c = elim c [ Some c ↦ λ user. [] | None ↦ warnings_by_type tree known called f f.symbol_type ]

module _ (tree : TreeFacts) (user : UserPlace → Option GivenValue) (V : ℕ → SymbolValue) where
  abbrev pub warnings_at : ℕ → List Warning
  warnings_at i = warnings_of tree (known_from tree V) (name tree (symbol i)) (facts tree (symbol i)) (user (SymbolPlace i))

  -- in the order of first definitions
  abbrev pub warnings_of_values : List Warning
  warnings_of_values = flat_map (λ s. warnings_at s.0) tree.defined
