use Rattle.std.proofs.Common.{ap, arith, length}
use Rattle.kc_values.specs.NeedRows.{AreNodeRows}
use Rattle.kc_values.proofs.{GraphNeeds.{choices_there, is_graph}, NeedsAlike.needs_alike, RowsMade.all_rows}
use Rattle.kc_values.proofs.needs.tree_needs.Goals as goal

pub add_symbols-requires-clause-choices : goal.add_symbols-requires-clause-choices
add_symbols-requires-clause-choices c = choices_there c.args.laid.now.tree.now c.args.laid.now.layout.now c.args.laid.now.laid c.name_count.ensures.formed

made : (c : goal.After-drop-row-3) → AreNodeRows c.args.laid.now.tree.now c.args.laid.now.layout.now c.add_choices.new.graph
made c =
    all_rows c.args.laid.now.tree.now c.args.laid.now.layout.now (length c.symbols.result.now) c.in_ok-graph.graph c.add_symbols.new.graph c.add_visibles.new.graph c.add_contexts.new.graph
    c.add_dependencies.new.graph c.add_choices.new.graph (ap length c.symbols.ensures) c.in_ok-graph.ensures c.in_ok-add_symbols.ensures.graph c.in_ok-add_visibles.ensures.graph
    c.in_ok-add_contexts.ensures.graph c.in_ok-add_dependencies.ensures.graph c.in_ok-add_choices.ensures.graph

pub returns-clause-nodes : goal.returns-clause-nodes
returns-clause-nodes c = made c

pub returns-clause-graph : goal.returns-clause-graph
returns-clause-graph c =
    is_graph c.args.laid.now.tree.now c.args.laid.now.layout.now c.add_choices.new.graph (made c) (choices_there c.args.laid.now.tree.now c.args.laid.now.layout.now c.args.laid.now.laid c.name_count.ensures.formed)

pub returns-clause-few : goal.returns-clause-few
returns-clause-few c = let laid = c.args.laid.now.layout.now.laid in let count = (made c).count in omega (arith, laid.few, laid.count, count)

pub returns-clause-alike : goal.returns-clause-alike
returns-clause-alike c =
    let tree = c.args.laid.now.tree.now in
    let l = c.args.laid.now.layout.now in
    let there = choices_there tree l c.args.laid.now.laid c.name_count.ensures.formed in
    needs_alike tree l c.args.laid.now.laid c.add_choices.new.graph (made c) (is_graph tree l c.add_choices.new.graph (made c) there) there
