use Rattle.std.proofs.Common.{None, ◌≡◌}
use Rattle.kc_language.specs.Expressions.{lesser}
use Rattle.kc_values.specs.{AtTable.context, TableFacts.condition_at}
use Rattle.kc_values.proofs.conditions.enclosing_least.Given as goal

abbrev pub invariant-blocks-2 : goal.invariant-blocks-2
invariant-blocks-2 l = record {
  same : lesser l.least (context l.table l.at.0) ≡ lesser l.fn.first (context l.table l.fn.within.0);
  alone : (condition_at l.table l.at.0).mode ≡ None;
}

abbrev pub decreases-blocks-2 : goal.decreases-blocks-2
decreases-blocks-2 l = l.at.0
