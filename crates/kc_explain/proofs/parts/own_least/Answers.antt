-- One line more, and all.
use Rattle.std.proofs.Common.{refl, ap, ◌∙◌}
use Rattle.kc_explain.specs.PartViews.{when_value}
use Rattle.kc_explain.proofs.DependencyLemmas.{asked, own-is}
use Rattle.kc_explain.proofs.PartLemmas.{least_next, least_end}
use Rattle.kc_explain.proofs.parts.own_least.Goals as goal

pub loop-line-init : goal.loop-line-init
loop-line-init c = refl

pub loop-line-preserved : goal.loop-line-preserved
loop-line-preserved c =
    least_next (asked c.args.solved.now) c.args.attributes.now c.loop-line.line-index c.line-item.result
    c.loop-line.least _ c.when_value.result c.loop-line.invariant c.loop-line-test.true c.line-item.is
    (c.when_value.ensures ∙ ap (when_value c.args.solved.now) c.depends_of.ensures) c.lesser-least.ensures

pub returns : goal.returns
returns c =
    least_end (asked c.args.solved.now) c.args.attributes.now c.loop-line.line-index
    c.loop-line.least c.loop-line.invariant c.loop-line-test.false
    ∙ own-is c.args.solved.now c.args.attributes.now
