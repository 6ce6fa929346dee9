use Rattle.std.proofs.Common.{subst}
use Rattle.kc_solve.specs.SolvedLaws.{IdempotentWhere}
use Rattle.kc_solve.proofs.SolvedSteps.{idempotent}
use Rattle.kc_solve.proofs.solved.Solved.is_idempotent_where.Goals as goal

pub returns : goal.returns
returns c =
    subst IdempotentWhere c.self.view_is (idempotent c.self.inside.table.tree.now c.self.inside.user.now c.self.inside.table.values _ _ _ _ _ c.self.invariant c.idempotent_where.ensures c.name_count-count.ensures.formed)
