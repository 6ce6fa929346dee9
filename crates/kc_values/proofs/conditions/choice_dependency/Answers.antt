use Rattle.std.proofs.Common.{sym}
use Rattle.kc_values.proofs.{ContextLemmas.row-alone, TriLemmas.rank-same}
use Rattle.kc_values.proofs.conditions.choice_dependency.Goals as goal

pub returns-in-Some : goal.returns-in-Some
returns-in-Some c = rank-same _ _ (c.args.table.now.dependencies_computed c.args.id.0 c.in-Some.value (sym c.in-Some.ensures))

pub found_dependency-requires : goal.found_dependency-requires
found_dependency-requires c = row-alone c.args.table.now c.args.id.0 c.in-Some-choice.choice.now c.in-Some-choice.ensures
