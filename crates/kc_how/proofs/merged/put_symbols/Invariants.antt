use Rattle.std.proofs.Common.{take, ◌≡◌}
use Rattle.kc_how.specs.Merged.{laid_over}
use Rattle.kc_how.proofs.merged.put_symbols.Given as goal

abbrev pub invariant-loop-number : goal.invariant-loop-number
invariant-loop-number l = l.user ≡ record l.initial.user { symbols = laid_over l.initial.user.symbols (take l.number l.over.symbols) }
