use Rattle.kc_language.specs.Symbols.{visible_in}
use Rattle.kc_possible.proofs.LeastBounds.{IsLeast}
use Rattle.kc_possible.proofs.conditions.shown_bounds.Given as goal

abbrev pub invariant-loop-line : goal.invariant-loop-line
invariant-loop-line l = IsLeast l.p visible_in l.attributes l.least l.line-index
