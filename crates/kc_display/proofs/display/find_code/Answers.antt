-- The code stands here, or one behind this place is left.
use Rattle.kc_display.specs.Hints.{all_codes}
use Rattle.kc_display.proofs.HintLemmas.{first-other, from-hit, from-next}
use Rattle.kc_display.proofs.display.find_code.Goals as goal

pub returns-in-Some-clause-is : goal.returns-in-Some-clause-is
returns-in-Some-clause-is c =
    first-other c.args.line.now _ (cc)
    (from-hit all_codes c.args.line.now c.after-rest.result.now c.loop-i.i c.in-Some.code c.loop-i-test.true c.after-rest.ensures (cc) c.in-Some.ensures c.loop-i.invariant)

pub loop-i-preserved : goal.loop-i-preserved
loop-i-preserved c = from-next all_codes c.args.line.now c.after-rest.result.now c.loop-i.i c.loop-i-test.true c.after-rest.ensures (cc) c.in_default.ensures c.loop-i.invariant
