-- The end of the hunk, one place further.
use Rattle.std.proofs.Common.{◌∙◌, length, sym}
use Rattle.kc_display.proofs.ShownLemmas.{hunk-off, hunk-on}
use Rattle.kc_display.proofs.unified.hunk_end.Goals as goal

pub loop-end-preserved : goal.loop-end-preserved
loop-end-preserved c =
    c.loop-end.invariant ∙ hunk-on c.args.edits.now (length c.args.edits.now) c.loop-end.end c.is_shown.result c.loop-end-test.true c.is_shown.ensures c.if-is_shown.true

pub returns-in-loop-end-clause-end : goal.returns-in-loop-end-clause-end
returns-in-loop-end-clause-end c =
    sym (c.loop-end.invariant ∙ hunk-off c.args.edits.now (length c.args.edits.now) c.loop-end.end c.is_shown.result c.loop-end-test.true c.is_shown.ensures c.if-is_shown.false)
