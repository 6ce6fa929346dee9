-- What holds at each turn of the loop of `line_among`.
use Rattle.std.proofs.Common.{◌-◌, ◌≤◌, length}
use Rattle.kc_text.proofs.long_lines.line_among.Given as goal

abbrev pub invariant-halves : goal.invariant-halves
invariant-halves l = (l.low ≤ l.high) × (l.high ≤ length l.lines)

abbrev pub decreases-halves : goal.decreases-halves
decreases-halves l = l.high - l.low
