-- Trusted: The expanded list that was read.
use Rattle.std.specs.{List.flat_map, Prelude.{List, None, Option, Some, map, ℕ, ◌≡◌}}
use Rattle.kc_language.specs.{Expansion.{ReadSoFar, modules_of}, Expressions.{all_mentioned, symbol}, Statements.{names_in_statement, statements}, declared.expressions.SymId.SymId}
use Rattle.kc_expr.specs.Names.{IsNumber}
use Rattle.kc_read.specs.declared.expansion.Expansion.{Expansion}
use Rattle.kc_entries.specs.{Entries.lines_in, PartsOfExpansion.{defined, located_numbered}, StatementViews.ForLater}

-- the number of a name, if there is a name
abbrev pub IsNamed : List (List ℕ) → Option SymId → Option (List ℕ) → Type 0
IsNamed names None None = Unit {0}
IsNamed names None (Some n) = ⊥
IsNamed names (Some id) None = ⊥
IsNamed names (Some id) (Some n) = IsNumber names n id

-- the numbers of these names, one after another
abbrev pub AreNumbers : List (List ℕ) → List SymId → List (List ℕ) → Type 0
AreNumbers names ids ns = ForLater names (λ number. ids ≡ map (λ n. symbol (number n)) ns)

-- the expanded list that was read; `first` are the names before, and `names` those after
pub record IsExpansion (first : List (List ℕ)) (names : List (List ℕ)) (log : ReadSoFar) (e : Expansion) : Type 0 where
  pub lines : ForLater names (λ number. lines_in e.entries ≡ map (located_numbered number) log.lines)
  pub mentions : names ≡ all_mentioned first (flat_map names_in_statement (statements log.lines))
  pub defined_is : AreNumbers names e.defined (defined (statements log.lines))
  pub modules_is : IsNamed names e.modules (modules_of (statements log.lines))
  pub opened_is : e.opened ≡ log.opened
