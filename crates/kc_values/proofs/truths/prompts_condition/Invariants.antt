use Rattle.std.proofs.Common.{◌≡◌}
use Rattle.kc_language.specs.Expressions.{greater}
use Rattle.kc_values.specs.{AtTable.conditions, TableFacts.facts_in}
use Rattle.kc_values.proofs.DefinitionLemmas.{IsWalk, left, prompts_left}
use Rattle.kc_values.proofs.truths.prompts_condition.Given as goal

abbrev pub invariant-definitions : goal.invariant-definitions
invariant-definitions l = record {
  same : greater l.greatest (prompts_left l.table l.fn.id l.at.0) ≡ conditions l.table (facts_in l.table l.fn.id l.symbol).prompts;
  walk : IsWalk l.table l.fn.id l.at.0;
}

abbrev pub decreases-definitions : goal.decreases-definitions
decreases-definitions l = left l.table l.fn.id l.at.0
