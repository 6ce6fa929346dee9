use Rattle.std.proofs.Common.{find, true, ◌≡◌}
use Rattle.kc_language.specs.Symbols.{stated_default}
use Rattle.kc_values.proofs.SaidFrom.{said_from}
use Rattle.kc_possible.proofs.truths.first_default.Given as goal

abbrev pub invariant-loop-line : goal.invariant-loop-line
invariant-loop-line l = find (λ d. true) (said_from stated_default l.line-items l.line-index) ≡ find (λ d. true) (said_from stated_default l.line-items 0)
