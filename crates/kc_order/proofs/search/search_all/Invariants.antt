use Rattle.std.proofs.Common.{get_or, length, ℕ, ◌<◌, ◌≡◌, ◌≢◌}
use Rattle.kc_order.specs.{Search.IsSound, declared.search.NodeState.TheVariants.New}
use Rattle.kc_order.proofs.search.search_all.Given as goal

abbrev pub invariant-loop-root : goal.invariant-loop-root
invariant-loop-root l = record {
  sound : IsSound l.rows l.search;
  idle : length l.search.path.items ≡ 0;
  visited : (s : ℕ) → s < l.root → get_or l.search.states.items s New ≢ New;
}
