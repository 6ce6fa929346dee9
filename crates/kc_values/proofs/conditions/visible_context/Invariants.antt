use Rattle.std.proofs.Common.{◌≡◌}
use Rattle.kc_language.specs.Expressions.{lesser}
use Rattle.kc_values.specs.AtTable as at
use Rattle.kc_values.proofs.conditions.visible_context.Given as goal

abbrev pub invariant-menus : goal.invariant-menus
invariant-menus l = lesser l.least (at.visible_context l.table l.at.0) ≡ at.visible_context l.table l.fn.within.0

abbrev pub decreases-menus : goal.decreases-menus
decreases-menus l = l.at.0
