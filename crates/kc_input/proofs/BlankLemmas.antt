-- Blanks at the end of a line, and what bstr's find says of the first `=`.
use Rattle.std.proofs.{Common.{Bool, List, None, Option, Some, arith, cond, drop, false, get_or, length, ltb, refl, take, true, ℕ, ◌+◌, ◌-◌, ◌<◌, ◌≡◌, ◌≢◌, ◌≤◌}, lemmas.{Bool.{false_from_ne_true, le-ltb, lt-ltb}, List.{Sums.{position_or_len_is, suffix_len_is}, take_rest}}}
use Rattle.std.specs.{List.{position_or_len, suffix_len}, Prelude.◌&&◌}
use Rattle.bstr.specs.Find.{NoneBefore, Nowhere, Passes, is_byte}
use Rattle.kc_language.specs.Tokens.{is_blank}
use Rattle.kc_input.specs.PartsOfConfigFile.{is_equals, split_at_equals, trimmed}

-- the last byte that is no blank ends the line, or the line is empty
pub trimmed_to : (bytes : List ℕ) (end : ℕ) → end ≤ length bytes → ((k : ℕ) → end ≤ k → k < length bytes → is_blank (get_or bytes k 0) ≡ true) →
    (0 < end → is_blank (get_or bytes (end - 1) 0) ≡ false) → take end bytes ≡ trimmed bytes
trimmed_to bytes end within after here =
    let n : suffix_len is_blank bytes ≡ length bytes - end = suffix_len_is is_blank bytes end 0 within after here in
    let left : length bytes - (length bytes - end) ≡ end = omega arith in
    rw (n, left) refl

-- where the first `=` stands
found_at : (text : List ℕ) (at : ℕ) → NoneBefore (Passes (is_byte 61) text) 0 (length text) at → Passes (is_byte 61) text at → position_or_len is_equals text ≡ at
found_at text at before here =
    let high : at < length text = before.high in
    position_or_len_is is_equals text at 0 (omega arith) (λ k lt. false_from_ne_true _ (before.before k (omega arith) lt)) (λ _. here)

pub split_found : (text : List ℕ) (at : ℕ) → at ≢ 0 → NoneBefore (Passes (is_byte 61) text) 0 (length text) at → Passes (is_byte 61) text at →
    Some (take at text, take (length text - (at + 1)) (drop (at + 1) text)) ≡ split_at_equals text
split_found text at some before here =
    let high : at < length text = before.high in
    let low : 0 < at = omega arith in
    rw (found_at text at before here, lt-ltb 0 at low, lt-ltb at (length text) high, take_rest) refl

pub split_at_front : (text : List ℕ) (at : ℕ) → at ≡ 0 → NoneBefore (Passes (is_byte 61) text) 0 (length text) at → Passes (is_byte 61) text at → None ≡ split_at_equals text
split_at_front text at none before here = rw (found_at text at before here, le-ltb 0 at (omega arith)) refl

no_side : {A : Type 0} (b : Bool) (x : Option A) → None ≡ cond (b && false) x None
no_side true x = refl
no_side false x = refl

pub split_nowhere : (text : List ℕ) → Nowhere (Passes (is_byte 61) text) 0 (length text) → None ≡ split_at_equals text
split_nowhere text none =
    let at : position_or_len is_equals text ≡ length text =
    position_or_len_is is_equals text (length text) 0 (omega arith) (λ k lt. false_from_ne_true _ (none k (omega arith) lt)) (λ (h : length text < length text). absurd (omega arith)) in
    rw (at, le-ltb (length text) (length text) (omega arith)) (no_side (ltb 0 (length text)) _)
