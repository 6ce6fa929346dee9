-- What holds at each turn of the loop of `few_line_feeds`.
use Rattle.std.proofs.Common.{◌≡◌, ◌≤◌, take}
use Rattle.std.specs.Prelude.{count_by, ◌==◌}
use Rattle.kc_text.proofs.physical.few_line_feeds.Given as goal

abbrev pub invariant-loop-b : goal.invariant-loop-b
invariant-loop-b l = (l.count ≡ count_by (λ b. b == 10) (take l.b-index l.bytes)) × (l.count ≤ l.b-index)
