use Rattle.kc_language.specs.{Expressions.SymbolValue, Symbols.TreeFacts, Values.{choice_at, mode_of}, declared.expressions.SymId.SymId}
use Rattle.kc_solve.proofs.SolvedSteps.{told}
use Rattle.kc_solve.proofs.solved.Solved.mode.Goals as goal

pub returns : goal.returns
returns c =
    let t = c.self.inside.table in
    told t.tree.now c.self.inside.user.now t.values c.self.invariant.full _ c.self.view_is
    (λ (tree : TreeFacts) (k : SymId → SymbolValue). mode_of tree k (choice_at tree c.args.choice)) _ c.mode_at.ensures
