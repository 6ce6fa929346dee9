use Rattle.std.proofs.Common.{take, ◌≡◌}
use Rattle.kc_how.specs.Merged.{laid_over}
use Rattle.kc_how.proofs.merged.put_choices.Given as goal

abbrev pub invariant-loop-number : goal.invariant-loop-number
invariant-loop-number l = l.user ≡ record l.initial.user { choices = laid_over l.initial.user.choices (take l.number l.over.choices) }
