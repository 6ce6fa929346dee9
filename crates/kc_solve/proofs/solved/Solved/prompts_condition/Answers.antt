use Rattle.std.proofs.Common.{flat_map}
use Rattle.kc_language.specs.{Expressions.SymbolValue, Symbols.{TreeFacts, listed}, Values.{conditions, facts}, declared.expressions.SymId.SymId}
use Rattle.kc_solve.proofs.SolvedSteps.{told}
use Rattle.kc_solve.proofs.solved.Solved.prompts_condition.Goals as goal

pub returns : goal.returns
returns c =
    let t = c.self.inside.table in
    told t.tree.now c.self.inside.user.now t.values c.self.invariant.full _ c.self.view_is
    (λ (tree : TreeFacts) (k : SymId → SymbolValue). conditions tree k (flat_map (λ f. f.prompts) (listed (facts tree c.args.id)))) _
    c.prompts_condition_at.ensures
