use Rattle.std.specs.Prelude.{◌≡◌}
use Rattle.kc_solve.specs.Renewing.{IsCopiedTo}
use Rattle.kc_solve.proofs.asked.copy_symbols.Given as goal

abbrev pub invariant-loop-number : goal.invariant-loop-number
invariant-loop-number l = (l.user.choices ≡ l.initial.user.choices) × IsCopiedTo l.number l.of.symbols l.user.symbols
