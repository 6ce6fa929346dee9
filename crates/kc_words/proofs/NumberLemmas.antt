-- The number that a text gives.
use Rattle.std.proofs.Common.{◌≡◌, ◌<◌, ℕ, ℤ, pos, cond, Bool, true, false, [], ◌∷◌, Option, None, Some, Result, Ok, Err, refl, sym, ap, subst, ◌∙◌, arith, codes, nat_eq, w64}
use Rattle.std.specs.Prelude.{◌&&◌, ◌==◌, ◌^◌, OkIff, option_map, unsigned_abs}
use Rattle.std.specs.List.{starts_with}
use Rattle.std.specs.Result.{result_ok}
use Rattle.std.specs.Str.Parse.{starts_with_minus}
use Rattle.std.specs.Int.{FitsUnsigned}
use Rattle.std.proofs.lemmas.Bool.{eq-eqb, eqb-true, ltb-true}
use Rattle.std.proofs.lemmas.Int.{ints, to_z_pos}
use mir.Syntax.{w128}
use mir.Val.{of_z, to_z}
use Rattle.clap.specs.Words.{Text}
use Rattle.kc_language.specs.Text.{int_of, natural_of}
use Rattle.kc_text.proofs.Naturals.{natural_bad}
use Rattle.kc_words.specs.CommandLine.{number_of}

and-true : (b : Bool) → (b && true) ≡ b
and-true true = refl
and-true false = refl

same : (x y : Bool) → (x ≡ true → y ≡ true) → (y ≡ true → x ≡ true) → x ≡ y
same true y to from = sym (to refl)
same false true to from = from refl
same false false to from = refl

flip : (a b : ℕ) → (a == b) ≡ (b == a)
flip a b = same (a == b) (b == a) (λ e. eq-eqb b a (sym (eqb-true a b e))) (λ e. eq-eqb a b (sym (eqb-true b a e)))

minus : (text : Text) → starts_with nat_eq text (codes "-") ≡ starts_with_minus text
minus [] = refl
minus (b ∷ bs) = and-true (45 == b) ∙ flip 45 b

bad : (b : ℕ) (bs : Text) → b ≡ 45 → None ≡ number_of (b ∷ bs)
bad b bs is = natural_bad 10 (2 ^ 63) (b ∷ bs) 0 (omega arith) (rw is (λ less. absurd (omega (arith, less))))

minus_bad : (text : Text) → starts_with_minus text ≡ true → None ≡ number_of text
minus_bad [] h = absurd (let e : false ≡ true = h in cc)
minus_bad (b ∷ bs) h = bad b bs (eqb-true b 45 h)

pub minus_none : (text : Text) → starts_with nat_eq text (codes "-") ≡ true → None ≡ number_of text
minus_none text h = minus_bad text (sym (minus text) ∙ h)

plain : (text : Text) → starts_with nat_eq text (codes "-") ≡ false → int_of text ≡ option_map pos (number_of text)
plain text h = let none : starts_with_minus text ≡ false = sym (minus text) ∙ h in rw none refl

map_none : (o : Option ℕ) → None ≡ option_map pos o → None ≡ o
map_none None e = refl
map_none (Some n) e = absurd (cc)

pub plain_none : (text : Text) → starts_with nat_eq text (codes "-") ≡ false → None ≡ int_of text → None ≡ number_of text
plain_none text h e = map_none (number_of text) (e ∙ plain text h)

below_by : (b : Bool) (m n limit : ℕ) → (b ≡ true → m < limit) → cond b (Some m) None ≡ Some n → n < limit
below_by true m n limit h e = let same : m ≡ n = cc in rw (sym same) (h refl)
below_by false m n limit h e = absurd (cc)

second : (x y : Bool) → (x && y) ≡ true → y ≡ true
second true y h = h
second false y h = absurd (let e : false ≡ true = h in cc)

natural_below : (radix limit : ℕ) (ds : Text) (n : ℕ) → natural_of radix limit ds ≡ Some n → n < limit
unfolding natural_of
natural_below radix limit ds n h = below_by _ _ n limit (λ t. ltb-true _ _ (second _ _ t)) h

fits_by : {E : Type 0} (n : ℕ) (r : Result ℕ E) → n < 2 ^ 63 → OkIff r (FitsUnsigned w64 (pos n)) n → result_ok r ≡ Some n
fits_by n (Ok x) small h = ap Some h.1
fits_by n (Err e) small h = absurd (h (omega (arith, ints), omega (arith, ints)))

-- a number below 2^63 is what it was before it was passed
passed : (n : ℕ) (v : ℤ) → n < 2 ^ 63 → v ≡ pos n → to_z w128 (of_z w128 v) ≡ pos n
passed n v small is = ap (λ (z : ℤ). to_z w128 (of_z w128 z)) is ∙ to_z_pos w128 n (omega arith)

some_by : {E : Type 0} (o : Option ℕ) (v : ℤ) (r : Result ℕ E) → ((n : ℕ) → o ≡ Some n → n < 2 ^ 63) → Some v ≡ option_map pos o →
    OkIff r (FitsUnsigned w64 (to_z w128 (of_z w128 v))) (unsigned_abs (to_z w128 (of_z w128 v))) → result_ok r ≡ o
some_by None v r small e h = absurd (cc)
some_by (Some n) v r small e h = let is : v ≡ pos n = cc in
    fits_by n r (small n refl) (subst (λ (z : ℤ). OkIff r (FitsUnsigned w64 z) (unsigned_abs z)) (passed n v (small n refl) is) h)

pub plain_some : {E : Type 0} (text : Text) (v : ℤ) (r : Result ℕ E) → starts_with nat_eq text (codes "-") ≡ false → Some v ≡ int_of text →
    OkIff r (FitsUnsigned w64 (to_z w128 (of_z w128 v))) (unsigned_abs (to_z w128 (of_z w128 v))) → result_ok r ≡ number_of text
plain_some text v r h e fits = some_by (number_of text) v r (natural_below 10 (2 ^ 63) text) (e ∙ plain text h) fits
