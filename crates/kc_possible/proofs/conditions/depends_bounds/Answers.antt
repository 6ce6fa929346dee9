use Rattle.std.proofs.Common.{refl, subst, sym}
use Rattle.kc_language.specs.Symbols.{dependency_in}
use Rattle.kc_language.specs.declared.expressions.Tri.TheVariants.{Y}
use Rattle.kc_possible.proofs.{LeastBounds.{IsLesser, bounds-asked, bounds-end, bounds-quiet}, conditions.depends_bounds.Goals.{in-Some, in_default}}
use Rattle.kc_possible.proofs.conditions.depends_bounds.Goals as goal

pub loop-line-init : goal.loop-line-init
loop-line-init c = λ known ok. record { before = Y; within = c.exactly-least.ensures.within; whole = refl }

pub loop-line-preserved : goal.loop-line-preserved
loop-line-preserved c =
    elim c.match-depends_of.branch [
      | in-Some w ↦
          bounds-asked c.args.p.now dependency_in c.args.attributes.now c.loop-line.line-index c.line-item.result _ c.loop-line.least c.match-depends_of.least w.expression.result c.loop-line-test.true c.line-item.is
          w.in-Some.ensures (subst (λ b. IsLesser c.args.p.now dependency_in c.args.attributes.now b c.loop-line.least w.expression.result) (sym w.least-is) w.lesser-least.ensures) w.expression.ensures c.loop-line.invariant
      | in_default w ↦
          bounds-quiet c.args.p.now dependency_in c.args.attributes.now c.loop-line.line-index c.line-item.result c.loop-line.least c.match-depends_of.least c.loop-line-test.true c.line-item.is
          w.in_default.ensures w.least-is c.loop-line.invariant
    ]

pub returns : goal.returns
returns c = bounds-end c.args.p.now dependency_in c.args.attributes.now c.loop-line.line-index c.loop-line.least c.loop-line-test.false c.loop-line.invariant
