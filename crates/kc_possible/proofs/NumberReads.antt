-- The number of a text is read again from the text that is written for it.
use Rattle.std.proofs.{Common.{Bool, List, None, Option, Some, [], ap, arith, cond, drop, false, length, pos, refl, subst, suc, true, unwrap_or, zero, ℕ, ◌+◌, ◌<◌, ◌^◌, ◌∙◌, ◌∷◌, ◌≡◌, ◌≤◌}, lemmas.{Bool.{and_from, and_parts, eqb-true, lt-ltb, ltb-true}, Fmt.digits_is_IsNumeral}}
use Rattle.std.specs.{Char.{digit_value, is_digit}, Fmt.digits, Prelude.{nat_lt, option_map, ℤ, ◌==◌}, Str.Parse.{AllDigits, digits_value, starts_with_minus}}
use Rattle.kc_language.specs.{Text.natural_of, Values.{number_or_zero, number_text}, declared.expressions.SymbolType.{SymbolType, TheVariants.{Bool as IsBool, Hex, Int, Str, Tristate, Undefined}}}
use Rattle.kc_text.specs.PartsOfText.{all_digits, is_numeral, negated, without_hex_prefix}

-- ---- Digits
all_by : (radix : ℕ) (ds : List ℕ) → AllDigits radix ds → all_digits radix ds ≡ true
all_by radix [] h = refl
all_by radix (d ∷ ds) h = and_from (is_digit d radix) (all_digits radix ds) (lt-ltb (digit_value d) radix h.0) (all_by radix ds h.1)

some_if : (b : Bool) (n m : ℕ) → b ≡ true → n ≡ m → cond b (Some n) None ≡ Some m
some_if b n m e same = rw (e, same) refl

natural_digits : (radix limit m : ℕ) → 2 ≤ radix → radix ≤ 16 → m < radix ^ 64 → m < limit → natural_of radix limit (digits radix false m) ≡ Some m
unfolding natural_of
natural_digits radix limit m low high wide below =
    let d = digits_is_IsNumeral radix false low high m wide in
    let ds = digits radix false m in
    some_if _ _ m
    (and_from (is_numeral radix ds) (nat_lt (digits_value radix ds) limit)
    (and_from (nat_lt 0 (length ds)) (all_digits radix ds) (lt-ltb 0 (length ds) d.0.0) (all_by radix ds d.0.1))
    (lt-ltb (digits_value radix ds) limit (omega (arith, d.1))))
    d.1

of_some : (b : Bool) (n m : ℕ) → cond b (Some n) None ≡ Some m → (b ≡ true) × (n ≡ m)
of_some true n m e = (refl, cc)
of_some false n m e = cc

below_limit : (radix limit m : ℕ) (ds : List ℕ) → natural_of radix limit ds ≡ Some m → m < limit
unfolding natural_of
below_limit radix limit m ds e =
    let (is, value) = of_some _ _ m e in
    let (numeral, below) = and_parts (is_numeral radix ds) (nat_lt (digits_value radix ds) limit) is in
    omega (arith, ltb-true (digits_value radix ds) limit below, value)

-- no digit is a minus
no_minus : (ds : List ℕ) → AllDigits 10 ds → starts_with_minus ds ≡ false
no_minus [] h = refl
no_minus (d ∷ ds) h = by (d == 45) refl
  where
    by : (b : Bool) → (d == 45) ≡ b → (d == 45) ≡ false
    by false e = e
    by true e = absurd (let is : digit_value 45 < 10 = subst (λ x. digit_value x < 10) (eqb-true d 45 e) (h.0) in omega (arith, is))

-- ---- Numbers
abbrev IsReadAgain : SymbolType → ℤ → Type 0
IsReadAgain k n = number_or_zero k (number_text k n) ≡ n

positive : (m : ℕ) → m < 2 ^ 63 → IsReadAgain Int (pos m)
positive m below =
    let ds = digits 10 false m in
    let read : Bool → Option ℕ → ℤ = λ minus o. unwrap_or (cond minus (option_map negated (natural_of 10 (2 ^ 63 + 1) (drop 1 ds))) (option_map pos o)) (pos 0) in
    ap (λ b. read b (natural_of 10 (2 ^ 63) ds)) (no_minus ds (digits_is_IsNumeral 10 false (omega arith) (omega arith) m (omega (arith, below))).0.1)
    ∙ ap (read false) (natural_digits 10 (2 ^ 63) m (omega arith) (omega arith) (omega (arith, below)) below)

negative : (m : ℕ) → m < 2 ^ 63 + 1 → IsReadAgain Int (negated m)
negative zero below = positive zero (omega arith)
negative (suc m) below =
    ap (λ (o : Option ℕ). unwrap_or (option_map negated o) (pos 0)) (natural_digits 10 (2 ^ 63 + 1) (suc m) (omega arith) (omega arith) (omega (arith, below)) below)

hexadecimal : (m : ℕ) → m < 2 ^ 64 → IsReadAgain Hex (pos m)
hexadecimal m below =
    ap (λ (o : Option ℕ). unwrap_or (option_map pos o) (pos 0)) (natural_digits 16 (2 ^ 64) m (omega arith) (omega arith) (omega (arith, below)) below)

of_positive : (o : Option ℕ) → ((m : ℕ) → o ≡ Some m → m < 2 ^ 63) → IsReadAgain Int (unwrap_or (option_map pos o) (pos 0))
of_positive None below = positive 0 (omega arith)
of_positive (Some m) below = positive m (below m refl)

of_negative : (o : Option ℕ) → ((m : ℕ) → o ≡ Some m → m < 2 ^ 63 + 1) → IsReadAgain Int (unwrap_or (option_map negated o) (pos 0))
of_negative None below = positive 0 (omega arith)
of_negative (Some m) below = negative m (below m refl)

of_hex : (o : Option ℕ) → ((m : ℕ) → o ≡ Some m → m < 2 ^ 64) → IsReadAgain Hex (unwrap_or (option_map pos o) (pos 0))
of_hex None below = hexadecimal 0 (omega arith)
of_hex (Some m) below = hexadecimal m (below m refl)

pub read-again : (k : SymbolType) (t : List ℕ) → IsReadAgain k (number_or_zero k t)
read-again Int t = by (starts_with_minus t)
  where
    by : (b : Bool) → IsReadAgain Int (unwrap_or (cond b (option_map negated (natural_of 10 (2 ^ 63 + 1) (drop 1 t))) (option_map pos (natural_of 10 (2 ^ 63) t))) (pos 0))
    by true = of_negative (natural_of 10 (2 ^ 63 + 1) (drop 1 t)) (λ m e. below_limit 10 (2 ^ 63 + 1) m (drop 1 t) e)
    by false = of_positive (natural_of 10 (2 ^ 63) t) (λ m e. below_limit 10 (2 ^ 63) m t e)
read-again Hex t = of_hex (natural_of 16 (2 ^ 64) (without_hex_prefix t)) (λ m e. below_limit 16 (2 ^ 64) m (without_hex_prefix t) e)
read-again Undefined t = refl
read-again IsBool t = refl
read-again Tristate t = refl
read-again Str t = refl
