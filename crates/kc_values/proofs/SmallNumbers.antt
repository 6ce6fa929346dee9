-- The numbers of texts are below 2^64.
use Rattle.std.proofs.{Common.{Bool, List, None, Option, Some, arith, cond, drop, false, not, pos, refl, suc, true, unwrap_or, zero, ℕ, ◌&&◌, ◌+◌, ◌<◌, ◌^◌, ◌≡◌}, lemmas.Bool.{and_parts, ltb-true}}
use Rattle.std.specs.{Prelude.{int_lt, nat_lt, option_map, unsigned_abs}, Str.Parse.{digits_value, starts_with_minus}}
use Rattle.kc_language.specs.{Text.natural_of, Values.{clamped, is_within_range, number_or_zero, number_text}, declared.{expressions.SymbolType.{SymbolType, TheVariants.{Bool as IsBool, Hex, Int, Str, Tristate, Undefined}}, values.Interval.Interval}}
use Rattle.kc_text.specs.PartsOfText.{is_numeral, negated, without_hex_prefix}

below_if : (b : Bool) (n limit : ℕ) → 0 < limit → (b ≡ true → n < limit) → unwrap_or (cond b (Some n) None) 0 < limit
below_if true n limit l h = h refl
below_if false n limit l h = l

natural_below : (radix limit : ℕ) (ds : List ℕ) → 0 < limit → unwrap_or (natural_of radix limit ds) 0 < limit
unfolding natural_of
natural_below radix limit ds l =
    below_if (is_numeral radix ds && nat_lt (digits_value radix ds) limit) (digits_value radix ds) limit l
    (λ e. ltb-true (digits_value radix ds) limit (and_parts (is_numeral radix ds) (nat_lt (digits_value radix ds) limit) e).1)

of_pos : (o : Option ℕ) → unsigned_abs (unwrap_or (option_map pos o) (pos 0)) ≡ unwrap_or o 0
of_pos None = refl
of_pos (Some n) = refl

of_negated : (o : Option ℕ) → unsigned_abs (unwrap_or (option_map negated o) (pos 0)) ≡ unwrap_or o 0
of_negated None = refl
of_negated (Some zero) = refl
of_negated (Some (suc n)) = refl

int_below : (b : Bool) (text : List ℕ) →
    unsigned_abs (unwrap_or (cond b (option_map negated (natural_of 10 (2 ^ 63 + 1) (drop 1 text))) (option_map pos (natural_of 10 (2 ^ 63) text))) (pos 0)) < 2 ^ 64
int_below true text =
    let l = natural_below 10 (2 ^ 63 + 1) (drop 1 text) (omega arith) in
    let e = of_negated (natural_of 10 (2 ^ 63 + 1) (drop 1 text)) in
    omega (arith, l, e)
int_below false text =
    let l = natural_below 10 (2 ^ 63) text (omega arith) in
    let e = of_pos (natural_of 10 (2 ^ 63) text) in
    omega (arith, l, e)

pub number_or_zero_below : (symbol_type : SymbolType) (text : List ℕ) → unsigned_abs (number_or_zero symbol_type text) < 2 ^ 64
number_or_zero_below Int text = int_below (starts_with_minus text) text
number_or_zero_below Hex text =
    let l = natural_below 16 (2 ^ 64) (without_hex_prefix text) (omega arith) in
    let e = of_pos (natural_of 16 (2 ^ 64) (without_hex_prefix text)) in
    omega (arith, l, e)
number_or_zero_below Undefined text = omega arith
number_or_zero_below IsBool text = omega arith
number_or_zero_below Tristate text = omega arith
number_or_zero_below Str text = omega arith

neither : (a b : Bool) (x y t : List ℕ) → (not a && not b) ≡ true → cond a x (cond b y t) ≡ t
neither true b x y t e = cc
neither false true x y t e = cc
neither false false x y t e = refl

-- what is inside keeps its text
pub inside_keeps : (symbol_type : SymbolType) (range : Option Interval) (t : List ℕ) → is_within_range symbol_type range t ≡ true → clamped symbol_type range t ≡ t
inside_keeps symbol_type None t e = refl
inside_keeps symbol_type (Some r) t e = neither (int_lt (number_or_zero symbol_type t) r.low) (int_lt r.high (number_or_zero symbol_type t)) (number_text symbol_type r.low) (number_text symbol_type r.high) t e
