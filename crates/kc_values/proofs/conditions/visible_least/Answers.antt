use Rattle.std.proofs.Common.{◌∙◌}
use Rattle.kc_language.specs.Symbols.{visible_in}
use Rattle.kc_values.proofs.{LeastLoops.{least-asked, least-end, least-quiet}, conditions.visible_least.Goals.{in-Some, in_default}}
use Rattle.kc_values.proofs.conditions.visible_least.Goals as goal

pub loop-line-preserved : goal.loop-line-preserved
loop-line-preserved c =
    elim c.match-visible_of.branch [
      | in-Some w ↦
          least-asked c.args.table.now visible_in c.args.attributes.now c.loop-line.line-index c.line-item.result _ c.loop-line.least c.match-visible_of.least w.eval.result _ c.loop-line-test.true c.line-item.is
          w.in-Some.ensures (w.least-is ∙ w.lesser-least.ensures) w.eval.ensures c.loop-line.invariant
      | in_default w ↦
          least-quiet c.args.table.now visible_in c.args.attributes.now c.loop-line.line-index c.line-item.result c.loop-line.least c.match-visible_of.least _ c.loop-line-test.true c.line-item.is
          w.in_default.ensures w.least-is c.loop-line.invariant
    ]

pub returns : goal.returns
returns c = least-end c.args.table.now visible_in c.args.attributes.now c.loop-line.line-index c.loop-line.least _ c.loop-line-test.false c.loop-line.invariant
