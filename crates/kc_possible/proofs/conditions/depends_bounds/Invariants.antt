use Rattle.kc_language.specs.Symbols.{dependency_in}
use Rattle.kc_possible.proofs.LeastBounds.{IsLeast}
use Rattle.kc_possible.proofs.conditions.depends_bounds.Given as goal

abbrev pub invariant-loop-line : goal.invariant-loop-line
invariant-loop-line l = IsLeast l.p dependency_in l.attributes l.least l.line-index
