-- What bstr's find says of the first byte that ends a name.
use Rattle.std.proofs.{Common.{Bool, List, None, Option, Some, arith, cond, false, length, ltb, refl, take, true, ℕ, ◌<◌, ◌≡◌, ◌≢◌}, lemmas.{Bool.{false_from_ne_true, le-ltb, lt-ltb}, List.Sums.position_or_len_is}}
use Rattle.std.specs.{List.position_or_len, Prelude.{◌&&◌, ◌==◌}}
use Rattle.bstr.specs.Find.{NoneBefore, Nowhere, Passes, is_byte}
use Rattle.kc_include.specs.Included.{name_before}

-- where it stands
found_at : (end : ℕ) (text : List ℕ) (at : ℕ) → NoneBefore (Passes (is_byte end) text) 0 (length text) at → Passes (is_byte end) text at →
    position_or_len (λ b. b == end) text ≡ at
found_at end text at before here =
    let high : at < length text = before.high in
    position_or_len_is (λ b. b == end) text at 0 (omega arith) (λ k lt. false_from_ne_true _ (before.before k (omega arith) lt)) (λ _. here)

pub name_found : (end : ℕ) (text : List ℕ) (at : ℕ) → at ≢ 0 → NoneBefore (Passes (is_byte end) text) 0 (length text) at → Passes (is_byte end) text at →
    Some (take at text) ≡ name_before end text
name_found end text at some before here =
    let high : at < length text = before.high in
    let low : 0 < at = omega arith in
    rw (found_at end text at before here, lt-ltb 0 at low, lt-ltb at (length text) high) refl

pub name_at_front : (end : ℕ) (text : List ℕ) (at : ℕ) → at ≡ 0 → NoneBefore (Passes (is_byte end) text) 0 (length text) at → Passes (is_byte end) text at →
    None ≡ name_before end text
name_at_front end text at none before here = rw (found_at end text at before here, le-ltb 0 at (omega arith)) refl

no_side : {A : Type 0} (b : Bool) (x : Option A) → None ≡ cond (b && false) x None
no_side true x = refl
no_side false x = refl

pub name_nowhere : (end : ℕ) (text : List ℕ) → Nowhere (Passes (is_byte end) text) 0 (length text) → None ≡ name_before end text
name_nowhere end text none =
    let at : position_or_len (λ b. b == end) text ≡ length text =
    position_or_len_is (λ b. b == end) text (length text) 0 (omega arith) (λ k lt. false_from_ne_true _ (none k (omega arith) lt)) (λ (h : length text < length text). absurd (omega arith)) in
    rw (at, le-ltb (length text) (length text) (omega arith)) (no_side (ltb 0 (length text)) _)
