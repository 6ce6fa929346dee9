use Rattle.std.proofs.Common.{◌≡◌}
use Rattle.kc_tree.specs.Layouts.{DefinitionFacts}
use Rattle.kc_values.specs.{AtTable.first_met, TableFacts.facts_in}
use Rattle.kc_values.proofs.DefinitionLemmas.{IsWalk, left, met_left}
use Rattle.kc_values.proofs.truths.met_default.Given as goal

abbrev pub invariant-definitions : goal.invariant-definitions
invariant-definitions l = record {
  same : met_left l.table l.fn.id (λ (d : DefinitionFacts). d.defaults) l.at.0 ≡ first_met l.table (facts_in l.table l.fn.id l.symbol).defaults;
  walk : IsWalk l.table l.fn.id l.at.0;
}

abbrev pub decreases-definitions : goal.decreases-definitions
decreases-definitions l = left l.table l.fn.id l.at.0
