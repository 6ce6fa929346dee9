use Rattle.std.proofs.Common.{subst}
use Rattle.kc_solve.specs.SolvedLaws.{IsMinimal}
use Rattle.kc_solve.proofs.SolvedSteps.{is_minimal}
use Rattle.kc_solve.proofs.solved.Solved.is_minimal.Goals as goal

pub returns : goal.returns
returns c =
    subst IsMinimal c.self.view_is
    (is_minimal c.self.inside.table.tree.now c.self.inside.user.now c.self.inside.table.values _ _ _ _ _ c.self.invariant c.minimal_restores.ensures.restores
    c.minimal_restores.ensures.nothing_to_spare c.name_count-count.ensures.formed)
