-- What was taken so far, and what is taken now.
use Rattle.kc_display.proofs.LineLemmas.{taken-on-rest, within-rest}
use Rattle.kc_display.proofs.edits.edits_between.Goals as goal

pub loop-old_at-preserved : goal.loop-old_at-preserved
loop-old_at-preserved c = (
  taken-on-rest (λ line. line.now) c.args.old.now c.after-old_rest.result.now c.loop-old_at.old_at c.in_ok-old_taken.old_taken _ _ c.after-old_rest.ensures c.loop-old_at.invariant.0 c.in_ok-old_taken.ensures.takes.old_are,
  taken-on-rest (λ line. line.now) c.args.new.now c.after-new_rest.result.now c.loop-old_at.new_at c.in_ok-old_taken.new_taken _ _ c.after-new_rest.ensures c.loop-old_at.invariant.1 c.in_ok-old_taken.ensures.takes.new_are,
  within-rest c.args.old.now c.after-old_rest.result.now c.loop-old_at.old_at c.in_ok-old_taken.old_taken c.after-old_rest.ensures c.in_ok-old_taken.ensures.old c.loop-old_at.invariant.2,
  within-rest c.args.new.now c.after-new_rest.result.now c.loop-old_at.new_at c.in_ok-old_taken.new_taken c.after-new_rest.ensures c.in_ok-old_taken.ensures.new c.loop-old_at.invariant.3,
)
