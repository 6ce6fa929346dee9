use Rattle.std.proofs.Common.{◌≡◌, filter, take}
use Rattle.kc_solve.specs.Busy as busy
use Rattle.kc_solve.proofs.evaluation_order.busy_nodes.Given as goal

abbrev pub invariant-loop-node : goal.invariant-loop-node
invariant-loop-node l = l.busy.items ≡ filter (busy.is_busy l.layout) (take l.node-index l.nodes)
