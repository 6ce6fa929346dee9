use Rattle.std.proofs.Common.{ap, arith, length, ◌∙◌, ◌≡◌}
use Rattle.kc_solve.proofs.AgainSteps.{copied_all}
use Rattle.kc_solve.proofs.asked.copy_choices.Goals as goal

pub returns : goal.returns
returns c =
    let u = c.loop-number.user in
    let of = c.args.of.now.choices in
    let all : c.loop-number.number ≡ length of = omega (arith, c.requires.count, ap length c.choices-number-end.ensures) in
    let copy = copied_all c.loop-number.number of u.choices all c.loop-number.invariant.1 in
    λ j. record { symbols = c.loop-number.invariant.0 j; choices = copy j }
