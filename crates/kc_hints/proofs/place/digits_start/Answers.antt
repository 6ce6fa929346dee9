use Rattle.std.proofs.Common.{arith, sym, ◌∙◌}
use Rattle.kc_hints.proofs.PlaceLemmas.{start_is}
use Rattle.kc_hints.proofs.place.digits_start.Goals as goal

pub returns-else-is_ascii_digit-clause-start : goal.returns-else-is_ascii_digit-clause-start
returns-else-is_ascii_digit-clause-start c =
    start_is c.args.text.now c.loop-end.end c.loop-end.invariant.0 c.loop-end.invariant.1 (λ low. sym c.is_ascii_digit.ensures.value ∙ c.if-is_ascii_digit.false)

pub returns-after-loop-end-clause-start : goal.returns-after-loop-end-clause-start
returns-after-loop-end-clause-start c =
    start_is c.args.text.now c.loop-end.end c.loop-end.invariant.0 c.loop-end.invariant.1 (λ low. absurd (omega arith))
