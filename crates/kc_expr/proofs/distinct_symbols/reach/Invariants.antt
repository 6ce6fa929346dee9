use Rattle.std.proofs.Common.{◌≡◌, ℕ, ◌+◌, ◌-◌, length}
use Rattle.kc_expr.specs.DistinctSymbols.{is_marked}
use Rattle.kc_expr.proofs.distinct_symbols.reach.Given as goal

abbrev pub invariant-loop-marks : goal.invariant-loop-marks
invariant-loop-marks l = (k : ℕ) → is_marked l.marks.items k ≡ is_marked l.fn.marks.items k

abbrev pub decreases-loop-marks : goal.decreases-loop-marks
decreases-loop-marks l = l.i + 1 - length l.marks.items
