use Rattle.kc_solve.proofs.AgainSteps.{kept_whole}
use Rattle.kc_solve.proofs.again.kept_of.Goals as goal

pub returns-in-Ok : goal.returns-in-Ok
returns-in-Ok c = λ laid tree rest.
    let is = c.solved.invariant in
    kept_whole laid c.args.solved c.solved.inside.table c.solved.inside.user.now c.in-Ok.user c.args.slots c.solved.view_is c.in-Ok.ensures tree is.user is.full is.solves rest
