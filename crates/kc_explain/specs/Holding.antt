-- For proofs: Parts of the definition of what holds a symbol down, with names of their own.
use Rattle.std.specs.Prelude.{List, Option, [], if◌then◌else◌, is_some, ℕ, ◌++◌, ◌∷◌}
use Rattle.std.specs.List.{flat_map}
use Rattle.kc_language.specs.ConfigFile.{UserInput}
use Rattle.kc_language.specs.Expressions.{Form, leaf_symbols, symbols, value}
use Rattle.kc_language.specs.Statements.{Located, Numbered, statements}
use Rattle.kc_language.specs.Symbols.{Bounds, StatedDefault, all_added, listed}
use Rattle.kc_language.specs.Texts.{Solution, known}
use Rattle.kc_language.specs.Values.{GivenValue}
use Rattle.kc_language.specs.declared.expressions.{SymId.{SymId}, Tri.{Tri}}
use Rattle.kc_outcome.specs.Explanations as rules
use Rattle.kc_explain.specs.FactViews.{FactView}
use Rattle.kc_explain.specs.FactViews as fact
use Rattle.kc_explain.specs.PartViews.{Part}

module _ (solution : Solution) where
  -- the symbols of an expression below y; of such a condition of a line; of such a part
  abbrev pub low_names : Form → List SymId
  low_names e = if rules.is_y (value (known solution) solution.tree.modules e) then [] else symbols solution.tree.modules e

  abbrev pub own_names : Option Form → List SymId
  own_names w = flat_map low_names (listed w)

  abbrev pub worth_names : rules.Asked → List SymId
  worth_names asks = elim asks [ rules.Worth e ↦ low_names e | rules.ModeOf k ↦ [] ]

  abbrev pub all_worth_names : List Part → List SymId
  all_worth_names ps = flat_map (λ (p : Part). worth_names p.asks) ps

  -- those of a default and of what it gives; of a range and of its bounds
  abbrev pub default_names : StatedDefault → Option GivenValue → List SymId
  default_names d given = own_names d.when ++ (if is_some given then symbols solution.tree.modules d.value else [])

  abbrev pub range_names : Bounds × Option Form → Option (List ℕ × List ℕ) → List SymId
  range_names r bounds = own_names r.1 ++ (if is_some bounds then leaf_symbols r.0.low ++ leaf_symbols r.0.high else [])

module _ (lines : List (Located Numbered)) (solution : Solution) where
  -- what holds down the mode of the choice that begins with statement j
  abbrev pub choice_names : ℕ → List SymId
  choice_names j = let ss = statements lines in
      flat_map (rules.worth_names ss solution.tree (known solution)) (rules.dependency_parts ss j)
      ++ flat_map (λ p. flat_map (rules.worth_names ss solution.tree (known solution)) (rules.shown_parts ss p)) (rules.prompt_lines ss (j ∷ []))

  -- the symbols of a part with this value; those that a fact names
  abbrev pub part_names : rules.Asked → Tri → List SymId
  part_names asks t = if rules.is_y t then [] else elim asks [
    | rules.Worth e ↦ symbols solution.tree.modules e
    | rules.ModeOf k ↦ rules.mode_names (statements lines) solution.tree (known solution) k
  ]

  abbrev pub names : FactView → List SymId
  names (fact.PartIs p t) = part_names p.asks t
  names (fact.DefaultIs kind d t given) = default_names solution d.what given
  names (fact.RangeIs kind r t bounds) = range_names solution r.what bounds
  names (fact.MemberDefaultIs d t u) = own_names solution (d.what).1
  names _ = []

-- the symbols after one more step
abbrev pub wider : UserInput → Solution → List SymId → List SymId → List SymId
wider input solution seen front = all_added seen (flat_map (rules.held input solution) front)
