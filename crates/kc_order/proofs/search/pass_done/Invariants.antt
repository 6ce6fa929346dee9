use Rattle.std.proofs.Common.{◌≡◌, ℕ, ◌<◌, ◌≤◌, get_or}
use Rattle.kc_order.specs.declared.search.NodeState.TheVariants.{New, Done}
use Rattle.kc_order.proofs.search.pass_done.Given as goal

abbrev pub invariant-loop-left : goal.invariant-loop-left
invariant-loop-left l = record {
  fewer : l.left ≤ l.count;
  done : (k : ℕ) → l.left ≤ k → k < l.count → get_or l.states (get_or l.row k 0) New ≡ Done;
}

abbrev pub decreases-loop-left : goal.decreases-loop-left
decreases-loop-left l = l.left
