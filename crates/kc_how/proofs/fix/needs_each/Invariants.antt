use Rattle.std.proofs.Common.{drop, false, take, ℕ, ◌++◌, ◌+◌, ◌<◌}
use Rattle.kc_how.specs.Fragments.{EndsIn, lines_in}
use Rattle.kc_how.proofs.fix.needs_each.Given as goal

abbrev pub invariant-loop-number : goal.invariant-loop-number
invariant-loop-number l = (j : ℕ) → j < l.number → EndsIn l.question false (take j (lines_in l.lines) ++ drop (j + 1) (lines_in l.lines))
