use Rattle.kc_solve.proofs.SolvedSteps.{table_is}
use Rattle.kc_solve.proofs.solved.Solved.table.Goals as goal

pub returns : goal.returns
returns c = table_is c.self.inside.table c.self.inside.user.now _ c.self.view_is c.self.invariant.full
