use Rattle.kc_solve.proofs.FlagSteps.{one_more_written}
use Rattle.kc_solve.proofs.flags.all_written.Goals as goal

pub loop-i-preserved : goal.loop-i-preserved
loop-i-preserved c =
    one_more_written c.args.table.now.tree.now c.args.table.now.values c.loop-i.i _ _ _ c.requires.full c.loop-i.invariant c.in_ok-push.ensures.items c.is_written.ensures
