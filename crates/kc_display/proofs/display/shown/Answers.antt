-- One more line is shown.
use Rattle.std.proofs.Common.{[]}
use Rattle.kc_display.specs.Hints.{shown_line}
use Rattle.kc_display.proofs.HintLemmas.{shown-next}
use Rattle.kc_display.proofs.display.shown.Goals as goal

pub loop-line-preserved : goal.loop-line-preserved
loop-line-preserved c =
    shown-next (λ line. line.now) (shown_line c.args.showing c.args.reason.now []) c.deref-line-items.result.now c.loop-line.line-index _ c.loop-line.shown.items _ c.loop-line-test.true
    c.loop-line.invariant c.in_ok-add_shown.ensures
