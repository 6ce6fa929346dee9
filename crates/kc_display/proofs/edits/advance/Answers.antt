-- Kept lines, removed ones and added ones are taken.
use Rattle.kc_display.proofs.LineLemmas.{taken-rests}
use Rattle.kc_display.proofs.edits.advance.Goals as goal

pub returns-clause-takes : goal.returns-clause-takes
returns-clause-takes c =
    taken-rests (λ line. line.now) c.args.old.now c.args.new.now c.after-old_rest.result.now c.after-new_rest.result.now c.common_start-kept.result c.gap-removed.result.0 c.gap-removed.result.1
    _ _ _ _ c.after-old_rest.ensures c.after-new_rest.ensures c.common_start-kept.ensures.same c.in_ok-add.ensures c.in_ok-add-2.ensures c.in_ok-add-3.ensures
