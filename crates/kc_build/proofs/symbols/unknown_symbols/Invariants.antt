use Rattle.std.proofs.Common.{◌≡◌, replicate}
use Rattle.kc_build.specs.SymbolsFound.{unknown}
use Rattle.kc_build.proofs.symbols.unknown_symbols.Given as goal

abbrev pub invariant-loop : goal.invariant-loop
invariant-loop l = l.symbols.items ≡ replicate l.counter unknown
