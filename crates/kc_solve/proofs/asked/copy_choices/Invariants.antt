use Rattle.std.specs.Prelude.{◌≡◌}
use Rattle.kc_solve.specs.Renewing.{IsCopiedTo}
use Rattle.kc_solve.proofs.asked.copy_choices.Given as goal

abbrev pub invariant-loop-number : goal.invariant-loop-number
invariant-loop-number l = (l.user.symbols ≡ l.initial.user.symbols) × IsCopiedTo l.number l.of.choices l.user.choices
