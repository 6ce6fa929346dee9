use Rattle.std.proofs.Common.{sym}
use Rattle.kc_values.proofs.TriLemmas.{rank-same}
use Rattle.kc_values.proofs.conditions.context.Goals as goal

pub returns-in-Some : goal.returns-in-Some
returns-in-Some c = rank-same _ _ (c.args.table.now.contexts_computed c.args.within.0 c.in-Some.value (sym c.in-Some.ensures))
