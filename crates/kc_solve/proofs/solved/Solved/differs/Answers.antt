use Rattle.std.proofs.Common.{◌∙◌, Bool, List, ap, false, get_or}
use Rattle.kc_solve.proofs.SolvedSteps.{differing_is}
use Rattle.kc_solve.proofs.solved.Solved.differs.Goals as goal

pub returns : goal.returns
returns c = c.at_symbol.ensures ∙ ap (λ (xs : List Bool). get_or xs c.args.id.0 false) c.deref.ensures.value
    ∙ differing_is c.self.inside.table.tree.now c.self.inside.user.now c.self.inside.table.values _ _ _ _ _ c.self.invariant _ c.self.view_is c.args.id c.requires
