use Rattle.std.proofs.{Common.{ap, arith, length, sym, ◌∙◌, ◌≡◌}, lemmas.List.length-map}
use Rattle.std.specs.Prelude.{option_map}
use Rattle.kc_user.specs.ValueView.{given_of_value}
use Rattle.kc_solve.proofs.AgainSteps.{copied_all}
use Rattle.kc_solve.proofs.asked.copy_symbols.Goals as goal

pub returns : goal.returns
returns c =
    let u = c.loop-number.user in
    let of = c.args.of.now.symbols in
    let count : length c.symbols.result.now ≡ length of = sym (length-map c.symbols.result.now (option_map given_of_value)) ∙ ap length c.symbols.ensures in
    let all : c.loop-number.number ≡ length of = omega (arith, count, c.len-number-end.ensures) in
    let copy = copied_all c.loop-number.number of u.symbols all c.loop-number.invariant.1 in
    λ j. record { symbols = copy j; choices = c.loop-number.invariant.0 j }
