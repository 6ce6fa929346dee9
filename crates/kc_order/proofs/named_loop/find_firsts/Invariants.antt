use Rattle.std.proofs.Common.{◌≤◌}
use Rattle.kc_order.specs.FirstUnordered.{AreFirsts}
use Rattle.kc_order.proofs.Groups.{graph}
use Rattle.kc_order.proofs.named_loop.find_firsts.Given as goal

abbrev pub invariant-loop-group : goal.invariant-loop-group
invariant-loop-group l = record {
  from : l.symbols ≤ l.group;
  are : AreFirsts l.sequence (graph l.symbols l.rows) l.group l.firsts.items;
}
