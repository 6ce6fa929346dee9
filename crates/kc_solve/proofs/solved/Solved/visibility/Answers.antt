use Rattle.kc_language.specs.{Expressions.SymbolValue, Symbols.TreeFacts, Values.facts, declared.expressions.SymId.SymId}
use Rattle.kc_solve.specs.Answers.{visibility_by}
use Rattle.kc_solve.proofs.SolvedSteps.{told}
use Rattle.kc_solve.proofs.solved.Solved.visibility.Goals as goal

pub returns : goal.returns
returns c =
    let t = c.self.inside.table in
    told t.tree.now c.self.inside.user.now t.values c.self.invariant.full _ c.self.view_is
    (λ (tree : TreeFacts) (k : SymId → SymbolValue). visibility_by tree k (facts tree c.args.id)) _
    c.visibility_in.ensures
