use Rattle.std.proofs.Common.{take}
use Rattle.kc_solve.specs.Renewing.{AreMarked}
use Rattle.kc_solve.proofs.plan.mark.Given as goal

abbrev pub invariant-loop-node : goal.invariant-loop-node
invariant-loop-node l = AreMarked (take l.node-index l.nodes) l.fn.marks l.marks
