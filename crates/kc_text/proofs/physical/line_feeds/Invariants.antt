-- What holds at each turn of the loop of `line_feeds`, and its measure.
use Rattle.std.proofs.Common.{◌≡◌, ◌+◌, length}
use Rattle.std.specs.Prelude.{count_by, ◌==◌}
use Rattle.kc_text.proofs.physical.line_feeds.Given as goal

abbrev pub invariant-along : goal.invariant-along
invariant-along l = l.count + count_by (λ b. b == 10) l.rest ≡ count_by (λ b. b == 10) l.fn.bytes

abbrev pub decreases-along : goal.decreases-along
decreases-along l = length l.rest
