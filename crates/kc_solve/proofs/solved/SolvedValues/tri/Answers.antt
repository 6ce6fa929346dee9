use Rattle.kc_language.specs.{Expressions.{SymbolValue, truth_of_value}, Symbols.TreeFacts, declared.expressions.SymId.SymId}
use Rattle.kc_solve.proofs.SolvedSteps.{told}
use Rattle.kc_solve.proofs.solved.SolvedValues.tri.Goals as goal

pub returns : goal.returns
returns c = told c.self.inside.table.tree.now c.self.inside.user.now c.self.inside.table.values c.self.invariant.full _ c.self.view_is
    (λ (t : TreeFacts) (k : SymId → SymbolValue). truth_of_value (k c.args.id)) _ c.truth_of.ensures
