use Rattle.kc_solve.specs.Plans.{IsOrderedTo}
use Rattle.kc_solve.proofs.plan.is_ordered.Given as goal

abbrev pub invariant-loop-node : goal.invariant-loop-node
invariant-loop-node l = IsOrderedTo l.node-index l.needs l.nodes l.done.items
