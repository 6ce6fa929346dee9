-- A text with escapes is at least as long as without.
use Rattle.std.proofs.Common.{ℕ, ◌+◌, ◌≤◌, List, [], ◌∷◌, ◌++◌, Bool, true, false, length, eqb, cond, arith}
use Rattle.std.specs.Prelude.{◌||◌}
use Rattle.kc_language.specs.Text.{escape}

escape_longer_head : (b : ℕ) (t : List ℕ) (special : Bool) → 1 + length (escape t) ≤ length (cond special (92 ∷ b ∷ []) (b ∷ []) ++ escape t)
escape_longer_head b t true = omega arith
escape_longer_head b t false = omega arith

pub escape_longer : (t : List ℕ) → length t ≤ length (escape t)
escape_longer [] = omega arith
escape_longer (b ∷ t) =
    let h = escape_longer_head b t (eqb b 34 || eqb b 92) in
    let r = escape_longer t in
    omega (arith, h, r)
