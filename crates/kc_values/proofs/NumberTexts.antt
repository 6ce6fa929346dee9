-- Each number in the limits of its type is written by two short texts.
use Rattle.std.proofs.{Common.{Bool, List, None, Option, Some, [], ap, arith, cond, drop, false, length, pos, refl, suc, sym, true, zero, ℕ, ◌+◌, ◌<◌, ◌^◌, ◌∷◌, ◌≡◌, ◌≤◌}, lemmas.{Bool.{and_from, and_parts, false_from_ne_true, le-leb, lt-ltb, ltb-true}, Fmt.digits_is_IsNumeral}}
use Rattle.std.specs.{Char.{digit_value, is_digit}, Cmp.Lexicographic.same_text, Fmt.{digit_glyph, digits, digits_onto}, Prelude.{bytes_eq, nat_le, nat_lt, option_map, unwrap_or, ℤ, ◌%◌, ◌/◌, ◌==◌}, Str.Parse.{AllDigits, digits_value, starts_with_minus}}
use Rattle.kc_language.specs.{Text.{longest_value, natural_of}, Values.{number_as, number_or_zero}, declared.expressions.SymbolType.{SymbolType, TheVariants.{Hex, Int}}}
use Rattle.kc_text.specs.PartsOfText.{all_digits, is_numeral, negated, without_hex_prefix}

onto_short : (k base n : ℕ) (upper : Bool) (acc : List ℕ) → length (digits_onto k base upper n acc) ≤ k + length acc
onto_short zero base n upper acc = omega arith
onto_short (suc k) base n upper acc = by_rest (n / base == 0) (onto_short k base (n / base) upper (digit_glyph upper (n % base) ∷ acc))
  where
    by_rest : (b : Bool) → length (digits_onto k base upper (n / base) (digit_glyph upper (n % base) ∷ acc)) ≤ k + length (digit_glyph upper (n % base) ∷ acc) →
        length (cond b (digit_glyph upper (n % base) ∷ acc) (digits_onto k base upper (n / base) (digit_glyph upper (n % base) ∷ acc))) ≤ suc k + length acc
    by_rest true h = omega arith
    by_rest false h = omega (arith, h)

digits_short : (base n : ℕ) → length (digits base false n) ≤ 64
unfolding digits
digits_short base n = omega (arith, onto_short 64 base n false [])

all_by : (radix : ℕ) (ds : List ℕ) → AllDigits radix ds → all_digits radix ds ≡ true
all_by radix [] h = refl
all_by radix (d ∷ ds) h = and_from (is_digit d radix) (all_digits radix ds) (lt-ltb (digit_value d) radix h.0) (all_by radix ds h.1)

some_if : (b : Bool) (n m : ℕ) → b ≡ true → n ≡ m → cond b (Some n) None ≡ Some m
some_if b n m e same = rw (e, same) refl

-- the digits of a number write it
natural_digits : (radix limit m : ℕ) → 2 ≤ radix → radix ≤ 16 → m < radix ^ 64 → m < limit → natural_of radix limit (digits radix false m) ≡ Some m
unfolding natural_of
natural_digits radix limit m low high wide below =
    let d = digits_is_IsNumeral radix false low high m wide in
    let ds = digits radix false m in
    some_if _ _ m
    (and_from (is_numeral radix ds) (nat_lt (digits_value radix ds) limit)
    (and_from (nat_lt 0 (length ds)) (all_digits radix ds) (lt-ltb 0 (length ds) d.0.0) (all_by radix ds d.0.1))
    (lt-ltb (digits_value radix ds) limit (omega (arith, d.1))))
    d.1

of_some : (b : Bool) (n m : ℕ) → cond b (Some n) None ≡ Some m → (b ≡ true) × (n ≡ m)
of_some true n m e = (refl, cc)
of_some false n m e = cc

-- and so does the same text behind a zero
natural_zero_ten : (limit m : ℕ) (ds : List ℕ) → natural_of 10 limit ds ≡ Some m → natural_of 10 limit (48 ∷ ds) ≡ Some m
unfolding natural_of
natural_zero_ten limit m ds e =
    let (is, value) = of_some _ _ m e in
    let (numeral, below) = and_parts (is_numeral 10 ds) (nat_lt (digits_value 10 ds) limit) is in
    let (some, all) = and_parts (nat_lt 0 (length ds)) (all_digits 10 ds) numeral in
    some_if _ _ m (and_from (is_numeral 10 (48 ∷ ds)) (nat_lt (digits_value 10 ds) limit)
    (and_from (nat_lt 0 (length (48 ∷ ds))) (all_digits 10 ds) (lt-ltb 0 (length (48 ∷ ds)) (omega arith)) all) below) value

natural_zero_sixteen : (limit m : ℕ) (ds : List ℕ) → natural_of 16 limit ds ≡ Some m → natural_of 16 limit (48 ∷ ds) ≡ Some m
unfolding natural_of
natural_zero_sixteen limit m ds e =
    let (is, value) = of_some _ _ m e in
    let (numeral, below) = and_parts (is_numeral 16 ds) (nat_lt (digits_value 16 ds) limit) is in
    let (some, all) = and_parts (nat_lt 0 (length ds)) (all_digits 16 ds) numeral in
    some_if _ _ m (and_from (is_numeral 16 (48 ∷ ds)) (nat_lt (digits_value 16 ds) limit)
    (and_from (nat_lt 0 (length (48 ∷ ds))) (all_digits 16 ds) (lt-ltb 0 (length (48 ∷ ds)) (omega arith)) all) below) value

-- a number that a text writes is below the limit
below_limit : (radix limit m : ℕ) (ds : List ℕ) → natural_of radix limit ds ≡ Some m → m < limit
unfolding natural_of
below_limit radix limit m ds e =
    let (is, value) = of_some _ _ m e in
    let (numeral, below) = and_parts (is_numeral radix ds) (nat_lt (digits_value radix ds) limit) is in
    omega (arith, ltb-true (digits_value radix ds) limit below, value)

longer_differs : (a b : List ℕ) → length b ≡ suc (length a) → bytes_eq b a ≡ false
longer_differs a b longer = false_from_ne_true (bytes_eq b a) (λ same. let e = ap length (same_text b a (sym same)) in omega (arith, longer, e))

-- two texts of this number, short enough for a line
pub record TwoTexts (kind : SymbolType) (n : ℤ) : Type 0 where
  pub one : List ℕ
  pub other : List ℕ
  pub one_is : number_as kind one ≡ Some n
  pub other_is : number_as kind other ≡ Some n
  pub one_short : nat_le (length one) longest_value ≡ true
  pub other_short : nat_le (length other) longest_value ≡ true
  pub differ : bytes_eq other one ≡ false

positive_texts : (m : ℕ) → m < 2 ^ 63 → TwoTexts Int (pos m)
positive_texts m below =
    let ds = digits 10 false m in
    let is = natural_digits 10 (2 ^ 63) m (omega arith) (omega arith) (omega (arith, below)) below in
    let zero_is = natural_zero_ten (2 ^ 63) m ds is in
    record {
      one = 48 ∷ ds;
      other = 48 ∷ 48 ∷ ds;
      one_is = ap (option_map pos) zero_is;
      other_is = ap (option_map pos) (natural_zero_ten (2 ^ 63) m (48 ∷ ds) zero_is);
      one_short = le-leb (length (48 ∷ ds)) longest_value (omega (arith, digits_short 10 m));
      other_short = le-leb (length (48 ∷ 48 ∷ ds)) longest_value (omega (arith, digits_short 10 m));
      differ = longer_differs (48 ∷ ds) (48 ∷ 48 ∷ ds) refl;
    }

negative_texts : (m : ℕ) → m < 2 ^ 63 + 1 → TwoTexts Int (negated m)
negative_texts m below =
    let ds = digits 10 false m in
    let is = natural_digits 10 (2 ^ 63 + 1) m (omega arith) (omega arith) (omega (arith, below)) below in
    let zero_is = natural_zero_ten (2 ^ 63 + 1) m ds is in
    record {
      one = 45 ∷ ds;
      other = 45 ∷ 48 ∷ ds;
      one_is = ap (option_map negated) is;
      other_is = ap (option_map negated) zero_is;
      one_short = le-leb (length (45 ∷ ds)) longest_value (omega (arith, digits_short 10 m));
      other_short = le-leb (length (45 ∷ 48 ∷ ds)) longest_value (omega (arith, digits_short 10 m));
      differ = longer_differs (45 ∷ ds) (45 ∷ 48 ∷ ds) refl;
    }

hex_texts : (m : ℕ) → m < 2 ^ 64 → TwoTexts Hex (pos m)
hex_texts m below =
    let ds = digits 16 false m in
    let is = natural_digits 16 (2 ^ 64) m (omega arith) (omega arith) (omega (arith, below)) below in
    let zero_is = natural_zero_sixteen (2 ^ 64) m ds is in
    record {
      one = 48 ∷ 120 ∷ ds;
      other = 48 ∷ 120 ∷ 48 ∷ ds;
      one_is = ap (option_map pos) is;
      other_is = ap (option_map pos) zero_is;
      one_short = le-leb (length (48 ∷ 120 ∷ ds)) longest_value (omega (arith, digits_short 16 m));
      other_short = le-leb (length (48 ∷ 120 ∷ 48 ∷ ds)) longest_value (omega (arith, digits_short 16 m));
      differ = longer_differs (48 ∷ 120 ∷ ds) (48 ∷ 120 ∷ 48 ∷ ds) refl;
    }

of_positive : (o : Option ℕ) → ((m : ℕ) → o ≡ Some m → m < 2 ^ 63) → TwoTexts Int (unwrap_or (option_map pos o) (pos 0))
of_positive None below = positive_texts 0 (omega arith)
of_positive (Some m) below = positive_texts m (below m refl)

of_negative : (o : Option ℕ) → ((m : ℕ) → o ≡ Some m → m < 2 ^ 63 + 1) → TwoTexts Int (unwrap_or (option_map negated o) (pos 0))
of_negative None below = positive_texts 0 (omega arith)
of_negative (Some m) below = negative_texts m (below m refl)

of_hex : (o : Option ℕ) → ((m : ℕ) → o ≡ Some m → m < 2 ^ 64) → TwoTexts Hex (unwrap_or (option_map pos o) (pos 0))
of_hex None below = hex_texts 0 (omega arith)
of_hex (Some m) below = hex_texts m (below m refl)

-- the number that any text writes, or 0
pub int_texts : (text : List ℕ) → TwoTexts Int (number_or_zero Int text)
int_texts text = by_sign (starts_with_minus text)
  where
    by_sign : (b : Bool) → TwoTexts Int (unwrap_or (cond b (option_map negated (natural_of 10 (2 ^ 63 + 1) (drop 1 text))) (option_map pos (natural_of 10 (2 ^ 63) text))) (pos 0))
    by_sign true = of_negative (natural_of 10 (2 ^ 63 + 1) (drop 1 text)) (λ m e. below_limit 10 (2 ^ 63 + 1) m (drop 1 text) e)
    by_sign false = of_positive (natural_of 10 (2 ^ 63) text) (λ m e. below_limit 10 (2 ^ 63) m text e)

pub hex_texts_of : (text : List ℕ) → TwoTexts Hex (number_or_zero Hex text)
hex_texts_of text = of_hex (natural_of 16 (2 ^ 64) (without_hex_prefix text)) (λ m e. below_limit 16 (2 ^ 64) m (without_hex_prefix text) e)
