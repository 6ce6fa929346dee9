-- Digits at the end of a text.
use Rattle.std.proofs.Common.{◌≡◌, ℕ, ◌-◌, ◌<◌, ◌≤◌, List, get_or, true, false, length, refl, arith}
use Rattle.std.specs.Char.{is_ascii_digit}
use Rattle.std.proofs.lemmas.List.Sums.{suffix_len_is}
use Rattle.kc_hints.specs.Facts.{digits_start}

pub start_is : (text : List ℕ) (end : ℕ) → end ≤ length text → ((k : ℕ) → end ≤ k → k < length text → is_ascii_digit (get_or text k 0) ≡ true) →
    (0 < end → is_ascii_digit (get_or text (end - 1) 0) ≡ false) → end ≡ digits_start text
start_is text end within after here =
    let n = suffix_len_is is_ascii_digit text end 0 within after here in
    let left : length text - (length text - end) ≡ end = omega arith in
    rw (n, left) refl
