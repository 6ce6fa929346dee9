-- The lost value of one symbol more.
use Rattle.std.proofs.Common.{[]}
use Rattle.kc_conf.specs.Lost.{lost_pairs}
use Rattle.kc_conf.proofs.MoreLemmas.{one_more}
use Rattle.kc_conf.proofs.lost.all_lost.Goals as goal

pub loop-i-preserved : goal.loop-i-preserved
loop-i-preserved c =
    one_more (lost_pairs c.args.is_raw c.args.input.now.lines c.args.solved.now) c.tree-tree.result.now.defined c.loop-i.i c.symbol.result [] _ _ c.symbol.ensures c.loop-i.invariant
    c.in_ok-add_lost_at.ensures
