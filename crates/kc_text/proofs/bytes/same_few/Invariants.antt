-- What holds at each turn of the loop of `same_few`, and its measure.
use Rattle.std.proofs.Common.{◌≡◌, ℕ, ◌-◌, ◌<◌, get_or, length}
use Rattle.kc_text.proofs.bytes.same_few.Given as goal

abbrev pub invariant-same : goal.invariant-same
invariant-same l = (k : ℕ) → k < l.at → get_or l.text k 0 ≡ get_or l.other k 0

abbrev pub decreases-same : goal.decreases-same
decreases-same l = length l.text - l.at
