use Rattle.std.proofs.Common.{◌≡◌}
use Rattle.kc_language.specs.Symbols.{visible_in}
use Rattle.kc_values.proofs.LeastLoops.{least_from}
use Rattle.kc_values.proofs.conditions.visible_least.Given as goal

abbrev pub invariant-loop-line : goal.invariant-loop-line
invariant-loop-line l = least_from l.table visible_in l.attributes l.least l.line-index ≡ least_from l.table visible_in l.attributes l.fn.first 0
