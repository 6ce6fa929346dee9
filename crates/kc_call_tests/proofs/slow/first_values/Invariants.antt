use Rattle.std.proofs.Common.{◌≡◌, length}
use Rattle.kc_call_tests.proofs.slow.first_values.Given as goal

abbrev pub invariant-loop-i : goal.invariant-loop-i
invariant-loop-i l = length l.values ≡ l.count
