use Rattle.std.proofs.Common.{◌≡◌}
use Rattle.kc_language.specs.Expressions.{lesser}
use Rattle.kc_values.specs.AtTable.{context}
use Rattle.kc_values.proofs.conditions.found_context.Given as goal

abbrev pub invariant-blocks-2 : goal.invariant-blocks-2
invariant-blocks-2 l = lesser l.least (context l.table l.at.0) ≡ context l.table l.fn.within.0

abbrev pub decreases-blocks-2 : goal.decreases-blocks-2
decreases-blocks-2 l = l.at.0
