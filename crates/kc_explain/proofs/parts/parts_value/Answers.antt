-- One part more, and all.
use Rattle.std.proofs.Common.{refl, ap, ◌∙◌}
use Rattle.kc_language.specs.Expressions.{least}
use Rattle.kc_explain.specs.PartViews.{Part, asked_value, asked_view, part_view}
use Rattle.kc_explain.proofs.PartLemmas.{least_next, least_end, map-twice}
use Rattle.kc_explain.proofs.parts.parts_value.Goals as goal

pub loop-part-init : goal.loop-part-init
loop-part-init c = refl

pub loop-part-preserved : goal.loop-part-preserved
loop-part-preserved c =
    least_next (λ p. asked_value c.args.solved.now (asked_view p.asks)) c.args.parts.now c.loop-part.part-index c.part-item.result
    c.loop-part.least _ c.part_value.result c.loop-part.invariant c.loop-part-test.true c.part-item.is c.part_value.ensures c.lesser-least.ensures

pub returns : goal.returns
returns c =
    least_end (λ p. asked_value c.args.solved.now (asked_view p.asks)) c.args.parts.now c.loop-part.part-index
    c.loop-part.least c.loop-part.invariant c.loop-part-test.false
    ∙ ap least (map-twice (λ (p : Part). asked_value c.args.solved.now p.asks) part_view c.args.parts.now)
