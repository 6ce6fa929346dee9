use Rattle.std.proofs.Common.{subst}
use Rattle.kc_solve.specs.Answers.{TellsKnown}
use Rattle.kc_solve.proofs.SolvedSteps.{tells_known}
use Rattle.kc_solve.proofs.solved.Solved.tells_known.Goals as goal

pub returns : goal.returns
returns c = subst TellsKnown c.self.view_is (tells_known c.self.inside.table.tree.now c.self.inside.user.now c.self.inside.table.values _ _ _ _ _ c.self.invariant)
