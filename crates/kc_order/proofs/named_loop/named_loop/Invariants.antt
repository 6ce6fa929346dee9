use Rattle.std.proofs.Common.{eqb, length, ◌-◌}
use Rattle.std.specs.List.{list_any}
use Rattle.kc_order.specs.Rows.{AreFlags}
use Rattle.kc_order.proofs.{Groups.flat, Walks.IsOnTheWay}
use Rattle.kc_order.proofs.named_loop.named_loop.Given as goal

abbrev pub invariant-loop-visited : goal.invariant-loop-visited
invariant-loop-visited l = record {
  walks : IsOnTheWay l.sequence l.symbols (flat l.symbols l.rows) l.walk.items l.at;
  flags : AreFlags l.symbols (λ s. list_any (eqb s) l.walk.items) l.visited.items;
}

abbrev pub decreases-loop-visited : goal.decreases-loop-visited
decreases-loop-visited l = l.symbols - length l.walk.items
