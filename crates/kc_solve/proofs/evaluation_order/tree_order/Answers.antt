use Rattle.std.proofs.Common.{List, ap, length, map, subst, sym, ℕ, ◌<◌, ◌∙◌}
use Rattle.std.specs.List.{All, Contains}
use Rattle.kc_language.specs.{Needs.{IsNamedLoop, loop_text, needs, needs_in}, declared.expressions.SymId.SymId}
use Rattle.kc_order.specs.{Graph.{Nodes, needs_of}, Order.Orders, Reason.IsReason}
use Rattle.kc_solve.specs.Orders.{IsNodeOrder}
use Rattle.kc_solve.proofs.{GroupNames.names_there, OrderSteps.node_order, SequenceSteps.{numbers_below, row_defined, rows_there}}
use Rattle.kc_solve.proofs.evaluation_order.tree_order.Goals as goal

pub first_numbers-requires : goal.first_numbers-requires
first_numbers-requires c = rows_there c.args.laid.now.tree.now c.name_count-count.ensures.formed c.args.laid.now.layout.now c.args.laid.now.laid

pub order_of-requires-clause-sequence : goal.order_of-requires-clause-sequence
order_of-requires-clause-sequence c =
    subst (All (λ s. s < c.in_ok-all.all.symbols)) (sym (c.deref.ensures.value ∙ c.in_ok-sequence.ensures))
    (numbers_below c.args.laid.now.tree.now c.name_count-count.ensures.formed c.args.laid.now.layout.now c.args.laid.now.laid c.in_ok-all.all c.in_ok-all.ensures.nodes)

pub order_of-requires-clause-needing : goal.order_of-requires-clause-needing
order_of-requires-clause-needing c = λ s below some.
    subst (λ xs. Contains xs s) (ap (map (λ (t : SymId). t.0)) c.args.laid.now.laid.defined ∙ sym (c.deref.ensures.value ∙ c.in_ok-sequence.ensures))
    (row_defined c.args.laid.now.tree.now c.name_count-count.ensures.formed c.args.laid.now.layout.now c.args.laid.now.laid c.in_ok-all.all c.in_ok-all.ensures.nodes s below some)

pub returns-in-Ok-clause-order : goal.returns-in-Ok-clause-order
returns-in-Ok-clause-order c =
    let tree = c.args.laid.now.tree.now in
    let l = c.args.laid.now.layout.now in
    let laid = c.args.laid.now.laid in
    let g = c.in_ok-all.all in
    let e = c.in_ok-all.ensures in
    let orders = subst (λ (x : Nodes). Orders x.rows c.nodes.result.now) c.in-Ok.ensures.same c.nodes.ensures in
    subst (IsNodeOrder tree l) (sym c.in_ok-busy_nodes-in-Ok.ensures)
    (node_order tree c.name_count-count.ensures.formed l laid g e.graph e.alike e.nodes (names_there tree l g laid e.graph e.nodes) c.nodes.result.now orders)

pub returns-in-Err-Loop-clause-refused : goal.returns-in-Err-Loop-clause-refused
returns-in-Err-Loop-clause-refused c =
    let tree = c.args.laid.now.tree.now in
    let g = c.in_ok-all.all in
    let loop = c.in-Err-Loop.symbols.items in
    let sequence = c.deref.ensures.value ∙ c.in_ok-sequence.ensures ∙ sym (ap (map (λ (t : SymId). t.0)) c.args.laid.now.laid.defined) in
    let reason = subst (IsReason c.deref.result.now (needs_of g)) c.in-Err-Loop.field-0-is c.in-Err-Loop.ensures.refused in
    let found = subst (λ (xs : List ℕ). IsNamedLoop xs (length (needs_of g)) (needs_in (needs_of g)) loop) sequence reason in (
      loop,
      c.alike_needs.ensures.named (map (λ (t : SymId). t.0) tree.defined) (needs_of g) (needs tree) loop c.in_ok-all.ensures.alike found,
      c.in_ok-text-in-Err-Loop.ensures ∙ ap (loop_text tree) c.deref-in-Err-Loop.ensures.value,
    )
