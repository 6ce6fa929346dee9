use Rattle.std.proofs.Common.{◌≡◌}
use Rattle.kc_language.specs.Symbols.{dependency_in}
use Rattle.kc_values.proofs.LeastLoops.{least_from}
use Rattle.kc_values.proofs.conditions.depends_least.Given as goal

abbrev pub invariant-loop-line : goal.invariant-loop-line
invariant-loop-line l = least_from l.table dependency_in l.attributes l.least l.line-index ≡ least_from l.table dependency_in l.attributes l.fn.first 0
