use Rattle.std.specs.Prelude.{[]}
use Rattle.kc_solve.specs.Computing.{IsComputedTable}
use Rattle.kc_solve.proofs.compute.compute.Given as goal

abbrev pub invariant-loop-node : goal.invariant-loop-node
invariant-loop-node l = IsComputedTable l.laid.tree.now l.laid.layout.now l.given l.chosen [] l.nodes l.node-index l.table
