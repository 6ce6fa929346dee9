use Rattle.std.proofs.Common.{◌≡◌, length, map, take}
use Rattle.kc_order.proofs.search.need_counts.Given as goal

abbrev pub invariant-loop-row : goal.invariant-loop-row
invariant-loop-row l = l.counts.items ≡ map length (take l.row l.rows)
