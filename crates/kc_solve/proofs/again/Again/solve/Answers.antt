use Rattle.kc_solve.proofs.AgainSteps.{rest_is}
use Rattle.kc_solve.proofs.again.Again.solve.Goals as goal

pub returns-clause-stage : goal.returns-clause-stage
returns-clause-stage c =
    let is = c.in_ok-table-2.ensures.solved in
    rest_is c.args.laid.now c.in_ok-solved.solved c.in_ok-table-2.table c.args.user.now c.in_ok-slots.slots c.in_ok-slots.ensures c.in_ok-solved.ensures.table is.tree_is c.in_ok-table-2.ensures.layout is.selected
    c.in_ok-solved.ensures.solution.places_are
