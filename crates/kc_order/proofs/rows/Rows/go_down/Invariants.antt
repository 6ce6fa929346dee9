use Rattle.std.proofs.Common.{◌-◌, ◌≤◌, ◌<◌, ℕ, All}
use Rattle.kc_language.specs.Needs.{needs_in}
use Rattle.kc_order.proofs.rows.Rows.go_down.Given as goal

abbrev pub invariant-loop-row : goal.invariant-loop-row
invariant-loop-row l = record {
  from : l.first ≤ l.row;
  before : (r : ℕ) → l.first ≤ r → r < l.row → All (λ t. t < r) (needs_in l.self r);
}

abbrev pub decreases-loop-row : goal.decreases-loop-row
decreases-loop-row l = l.count - l.row
