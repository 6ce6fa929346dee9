use Rattle.std.proofs.Common.{get_or, ◌≢◌}
use Rattle.kc_order.specs.{Search.{IsSound, KeepsVisited, work}, declared.search.NodeState.TheVariants.New}
use Rattle.kc_order.proofs.search.visit.Given as goal

abbrev pub invariant-loop-top : goal.invariant-loop-top
invariant-loop-top l = record {
  sound : IsSound l.rows l.search;
  visited : KeepsVisited l.fn.search l.search;
  root_met : get_or l.search.states.items l.root New ≢ New;
}

abbrev pub decreases-loop-top : goal.decreases-loop-top
decreases-loop-top l = work l.search
