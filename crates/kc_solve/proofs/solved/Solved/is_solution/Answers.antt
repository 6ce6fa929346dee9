use Rattle.std.proofs.Common.{subst}
use Rattle.kc_language.specs.Texts.{IsSolution}
use Rattle.kc_solve.proofs.SolvedSteps.{is_solution}
use Rattle.kc_solve.proofs.solved.Solved.is_solution.Goals as goal

pub returns : goal.returns
returns c = subst IsSolution c.self.view_is (is_solution c.self.inside.table.tree.now c.self.inside.user.now c.self.inside.table.values _ _ _ _ _ c.self.invariant)
