use Rattle.kc_solve.specs.{Again.graph_of, Computing.IsComputedTable, Renewing.AreMarks}
use Rattle.kc_solve.proofs.renewing.renewed.Given as goal

abbrev pub invariant-loop-node : goal.invariant-loop-node
invariant-loop-node l =
    IsComputedTable l.laid.tree.now l.laid.layout.now l.now.values.now l.now.members.now l.fn.kept.values l.plan.nodes.items l.node-index l.table
    × AreMarks l.laid.tree.now l.laid.layout.now (graph_of l.laid) l.plan.nodes.items l.node-index l.now.members.now l.fn.kept.values l.table.values l.marks.items
