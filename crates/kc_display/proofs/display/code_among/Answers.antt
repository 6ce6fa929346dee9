-- The code fits, or those after it are left.
use Rattle.kc_display.specs.declared.code.Code.TheVariants.{TypeLines}
use Rattle.kc_display.proofs.HintLemmas.{among-hit, among-next}
use Rattle.kc_display.proofs.display.code_among.Goals as goal

pub returns-then-starts_with : goal.returns-then-starts_with
returns-then-starts_with c = among-hit c.args.codes.now c.args.text.now c.loop-code.code-index _ c.loop-code-test.true c.loop-code.invariant (cc)

pub loop-code-preserved : goal.loop-code-preserved
loop-code-preserved c = among-next c.args.codes.now c.args.text.now c.loop-code.code-index TypeLines c.loop-code-test.true c.loop-code.invariant (cc)
