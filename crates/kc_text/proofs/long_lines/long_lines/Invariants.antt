-- What holds at each turn of the loop of `long_lines`.
use Rattle.std.proofs.Common.{length}
use Rattle.kc_text.specs.LongLines.{AreLong, IsEndOf}
use Rattle.kc_text.proofs.long_lines.long_lines.Given as goal

abbrev pub invariant-along : goal.invariant-along
invariant-along l = AreLong l.file l.lines.items × IsEndOf l.file l.rest

abbrev pub decreases-along : goal.decreases-along
decreases-along l = length l.rest
