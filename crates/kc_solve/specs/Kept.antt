-- Trusted: The parts of a solution that are stored: the table of its values, and what was computed from them.
use Rattle.std.specs.{List.range_with_len, Prelude.{Bool, IfSome, List, Option, length, map, ℕ, ◌≡◌}}
use Rattle.kc_language.specs.{ConfigFile.{ArePlacesOf, Places, place_at}, Expressions.{SymbolValue, symbol}, Needs.IsAccepted, Symbols.{TreeFacts, Warning}, Texts.Solution, Values.{IsOnlySolution, Solves, equations, facts, known_from, name_count}, declared.expressions.{SymId.SymId, Tri.Tri}}
use Rattle.kc_language.specs.Values as values
use Rattle.kc_values.specs.{Table.known_in, declared.table.Value.Value}
use Rattle.kc_values.specs.PartsOfTexts as warning
use Rattle.kc_solve.specs.Answers.{visibility_by}

-- the valuation in a table, by symbol number
abbrev pub valuation : TreeFacts → List (Option Value) → ℕ → SymbolValue
valuation tree values i = known_in tree values (symbol i)

-- the solution in a full table
abbrev pub solution_in : TreeFacts → Places → List (Option Value) → Solution
solution_in tree places table = record {
  tree = tree;
  places = places;
  values = map (valuation tree table) (range_with_len 0 (name_count tree));
}

-- The stored parts of a solution: the full table, the selections, the default selections, which symbols differ,
-- which are written, if that is kept, the warnings.
pub record IsSolved (tree : TreeFacts) (places : Places) (table : List (Option Value)) (selections defaults : List (Option SymId))
    (differing : List Bool) (written : Option (List Bool)) (warnings : List Warning) : Type 0 where
  pub accepted : IsAccepted tree
  pub user : ArePlacesOf tree places
  pub full : length table ≡ name_count tree
  pub solves : Solves (name_count tree) (equations tree (place_at places)) (valuation tree table)
  pub only : IsOnlySolution (name_count tree) (equations tree (place_at places)) (valuation tree table)
  pub selections_are : selections ≡ map (values.selection tree (place_at places) (valuation tree table)) (range_with_len 0 (length tree.choices))
  pub defaults_are : defaults ≡ map (values.default_selection tree (valuation tree table)) (range_with_len 0 (length tree.choices))
  pub differing_are : differing ≡ map (values.differs tree (place_at places) (valuation tree table)) (range_with_len 0 (name_count tree))
  pub written_are : IfSome written (λ w. w ≡ map (λ i. values.written tree (known_from tree (valuation tree table)) (symbol i)) (range_with_len 0 (name_count tree)))
  pub warnings_are : warnings ≡ warning.warnings_of_values tree (place_at places) (valuation tree table)
