-- None, and one reason more.
use Rattle.std.proofs.lemmas.List.Elements.{All-get_or}
use Rattle.kc_possible.specs.Possible.{IsOff}
use Rattle.kc_conf.proofs.ReplyLemmas.{adds_more_reasons, adds_no_reason}
use Rattle.kc_conf.proofs.reply.add_reasons.Goals as goal

pub loop-reason-init : goal.loop-reason-init
loop-reason-init c = adds_no_reason c.args.question.now c.args.text.now.items

pub add_reason_lines-requires-clause-off : goal.add_reason_lines-requires-clause-off
add_reason_lines-requires-clause-off c =
    All-get_or (IsOff c.args.question.now.laid.now.tree.now) c.args.reasons.now c.loop-reason.reason-index (record { 0 = 0 }) c.loop-reason-test.true c.requires.off

pub loop-reason-preserved : goal.loop-reason-preserved
loop-reason-preserved c = adds_more_reasons c.args.question.now _ _ _ c.loop-reason.invariant c.in_ok-add_reason_lines.ensures
