-- One more line is the same.
use Rattle.std.proofs.Common.{◌∙◌, sym}
use Rattle.kc_display.proofs.LineLemmas.{below-both, same-more}
use Rattle.kc_display.proofs.edits.common_start.Goals as goal

pub loop-i-preserved : goal.loop-i-preserved
loop-i-preserved c =
    let below = below-both c.loop-i.i c.min-most.result _ _ c.loop-i-test.true c.min-most.ensures in
    same-more (λ line. line.now) c.args.old.now c.args.new.now c.loop-i.i _ _ below.0 below.1 c.loop-i.invariant (sym c.is_same.ensures ∙ c.if-is_same.true)
