use Rattle.kc_language.specs.{Expressions.SymbolValue, Symbols.TreeFacts, declared.expressions.SymId.SymId}
use Rattle.kc_expr.specs.PartsOfExpressions.{text_of_value}
use Rattle.kc_solve.proofs.SolvedSteps.{told}
use Rattle.kc_solve.proofs.solved.SolvedValues.text.Goals as goal

pub returns : goal.returns
returns c = told c.self.inside.table.tree.now c.self.inside.user.now c.self.inside.table.values c.self.invariant.full _ c.self.view_is
    (λ (t : TreeFacts) (k : SymId → SymbolValue). text_of_value (k c.args.id)) _ c.known_text.ensures
