use Rattle.std.proofs.Common.{List, ap, length, subst, sym, ℕ, ◌∙◌, ◌≡◌}
use Rattle.kc_order.specs.Graph.{Nodes}
use Rattle.kc_solve.specs.{Again.{AreReaders, IsOrderedBy, graph_of}, Orders.IsNodeOrder}
use Rattle.kc_solve.proofs.plan.Plan.of.Goals as goal

pub returns : goal.returns
returns c =
    let laid = c.args.laid.now in
    let rows = c.in_ok-needs.ensures.nodes in
    let same : c.in_ok-needs.needs ≡ graph_of laid = λ j. record { symbols = rows.symbols_are j; rows = rows.rows_are j } in
    let copied = c.in_ok-nodes.ensures.items ∙ c.nodes-2.ensures in
    record {
      count = ap (λ (g : Nodes). length g.rows) (sym same) ∙ rows.count;
      order = subst (λ (nodes : List ℕ). IsNodeOrder laid.tree.now laid.layout.now nodes) (sym copied) c.requires.nodes_are;
      ordered = subst (λ (nodes : List ℕ). IsOrderedBy (graph_of laid) nodes) (sym copied)
          (subst (λ (g : Nodes). IsOrderedBy g c.args.order.now) same (subst (λ (nodes : List ℕ). IsOrderedBy c.in_ok-needs.needs nodes) c.nodes.ensures (c.in_ok-is_ordered.ensures c.if-not-branch.false)));
      readers = subst (λ (g : Nodes). AreReaders g c.in_ok-readers.readers) same c.in_ok-readers.ensures;
    }
