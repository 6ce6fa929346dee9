use Rattle.std.proofs.Common.{◌≡◌}
use Rattle.std.specs.List.{list_any}
use Rattle.kc_possible.specs.Ranges.{is_plain}
use Rattle.kc_possible.proofs.RangeWalks.{ranges_from}
use Rattle.kc_possible.proofs.ranges.has_plain_range.Given as goal

abbrev pub invariant-loop-line : goal.invariant-loop-line
invariant-loop-line l = list_any is_plain (ranges_from l.line-items l.line-index) ≡ list_any is_plain (ranges_from l.line-items 0)
