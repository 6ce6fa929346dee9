-- Lists of which one element passes a test.
use Rattle.std.proofs.Common.{◌≡◌, ◌<◌, Bool, List, [], ◌∷◌, arith, cond, false, get_or, length, suc, true, zero, ℕ}
use Rattle.std.proofs.Math.Dec.{eqb-suc-zero}
use Rattle.std.specs.Prelude.{filter, ◌==◌}

with_first : {X : Type 0} (b : Bool) (x : X) (kept : List X) → (length kept == 0) ≡ false → (length (cond b (x ∷ kept) kept) == 0) ≡ false
with_first true x kept some = eqb-suc-zero (length kept)
with_first false x kept some = some

-- what passes is not nothing
pub some-pass : {X : Type 0} (p : X → Bool) (xs : List X) (i : ℕ) (d : X) → i < length xs → p (get_or xs i d) ≡ true → (length (filter p xs) == 0) ≡ false
some-pass p [] i d lt passes = absurd (omega (arith, lt))
some-pass p (x ∷ xs) zero d lt passes = rw passes (eqb-suc-zero (length (filter p xs)))
some-pass p (x ∷ xs) (suc i) d lt passes = with_first (p x) x (filter p xs) (some-pass p xs i d (omega (arith, lt)) passes)
