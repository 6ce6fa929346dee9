-- Why `not_plain` keeps its contract.
use Rattle.std.proofs.{Common.{arith, eqb, map, sym, ℕ, ◌∙◌}, Math.Bool.not-not, lemmas.Simd.zip2_splat}
use Rattle.std.specs.Prelude.{◌||◌}
use Rattle.kc_text.proofs.Loads.{either, lane, mask_is}
use Rattle.kc_text.proofs.lexer.not_plain.Goals as goal
use lib.Lanes.{mask_l}

pub returns : goal.returns
returns c =
    let v = c.args.bytes in
    let ends = λ (x : ℕ). eqb x 34 || eqb x 39 || eqb x 36 || eqb x 92 in
    let lanes = λ (y : ℕ). zip2_splat (λ a b. lane (eqb a b)) v 16 y c.fits-bytes.0 in
    mask_is v ends (omega (arith, c.fits-bytes.0)) (either v _ _ (either v _ _ (either v _ _ (lanes 34) (lanes 39)) (lanes 36)) (lanes 92))
    ∙ sym (λ i. mask_l (map (λ x. not-not (ends x) i) v))
