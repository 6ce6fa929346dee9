use Rattle.std.proofs.Common.{arith}
use Rattle.kc_order.proofs.{Groups.graph, Held.row_nodes, NodePlaces.{firsts_more, firsts_of_symbols}}
use Rattle.kc_order.proofs.named_loop.find_firsts.Goals as goal

pub loop-group-init : goal.loop-group-init
loop-group-init c = record {
  from = omega arith;
  are = firsts_of_symbols c.args.sequence.now (graph c.args.symbols c.args.rows.now) c.requires.graph c.args.states.now c.in_ok-firsts.firsts.items
      c.requires.sequence c.requires.states c.in_ok-firsts.ensures;
}

pub first_in_row-requires : goal.first_in_row-requires
first_in_row-requires c =
    rw (c.row.ensures, c.deref.ensures.value, c.loop-group.invariant.are.count)
    (row_nodes c.args.rows.now c.loop-group.group c.requires.graph.within (omega (arith, c.loop-group-test.true)))

pub loop-group-preserved : goal.loop-group-preserved
loop-group-preserved c =
    let inv = c.loop-group.invariant in
    record {
      from = omega (arith, inv.from);
      are = firsts_more c.args.sequence.now (graph c.args.symbols c.args.rows.now) c.requires.graph
          c.loop-group.group c.loop-group.firsts.items c.first_in_row.result inv.are inv.from (omega (arith, c.loop-group-test.true)) (rw (c.deref.ensures.value, c.row.ensures) at c.first_in_row.ensures);
    }
