-- The bytes of the texts that stand in a line.
use Rattle.std.proofs.{Common.{Bool, List, None, Option, Some, [], ap, arith, cond, drop, eqb, false, get_or, inl, inr, length, refl, subst, suc, sym, true, ℕ, ◌++◌, ◌<◌, ◌∷◌, ◌≡◌}, Math.Seq.get_or-append_seam, lemmas.{Bool.{and_parts, cases_Bool, eqb-true, lt-ltb, ltb-true, ne_eqb, true≢false}, List.{Elements.{All-append, All-cons, All-nil}, Sums.AllPass-from_list_all, length-append}}}
use Rattle.std.specs.{Char.{digit_value, is_digit}, Prelude.{All, is_some, nat_lt, option_map, ◌&&◌, ◌==◌, ◌||◌}, Str.Parse.{digits_value, starts_with_minus}}
use Rattle.kc_language.specs.{Text.{escape, has_hex_prefix, hex_of, int_of, natural_of}, Texts.EndsPlainly}
use Rattle.kc_text.specs.PartsOfText.{is_numeral, negated}
use Rattle.kc_input.specs.PartsOfTexts.{is_end_byte}
use Rattle.kc_input.proofs.LineLemmas.{HasNoLf}

-- a byte that passes is none that does not
pub byte_not : (p : ℕ → Bool) (b c : ℕ) → p c ≡ false → p b ≡ true → eqb b c ≡ false
byte_not p b c other is = ne_eqb b c (λ e. let f = ap p e in cc)

pub no_lf_by : (p : ℕ → Bool) (xs : List ℕ) → p 10 ≡ false → All (λ b. p b ≡ true) xs → HasNoLf xs
no_lf_by p xs other all = λ k d lt. byte_not p (get_or xs k d) 10 other (all k d lt)

last_in : (P : ℕ → Type 0) (front : List ℕ) (b : ℕ) → All P (front ++ b ∷ []) → P b
last_in P front b all =
    let lt : length front < length (front ++ b ∷ []) = omega (arith, length-append front (b ∷ [])) in
    subst P (get_or-append_seam front b [] 0) (all (length front) 0 lt)

end_by : (p : ℕ → Bool) (b : ℕ) → p 32 ≡ false → p 9 ≡ false → p 13 ≡ false → p b ≡ true → is_end_byte b ≡ false
end_by p b space tab return is = rw (byte_not p b 32 space is, byte_not p b 9 tab is, byte_not p b 13 return is) refl

pub plain_by : (p : ℕ → Bool) (xs : List ℕ) → p 32 ≡ false → p 9 ≡ false → p 13 ≡ false → All (λ b. p b ≡ true) xs → EndsPlainly xs
plain_by p xs space tab return all front b is =
    end_by p b space tab return (last_in (λ x. p x ≡ true) front b (subst (λ t. All (λ x. p x ≡ true) t) is all))

-- Numbers.
abbrev pub number_byte : ℕ → Bool
number_byte b = is_digit b 16 || (b == 45 || (b == 120 || b == 88))

or_left : (a b : Bool) → a ≡ true → (a || b) ≡ true
or_left true b e = refl
or_left false b e = absurd (true≢false (sym e))

or_right : (a b : Bool) → b ≡ true → (a || b) ≡ true
or_right true b e = refl
or_right false b e = e

hex_number : (b : ℕ) → is_digit b 16 ≡ true → number_byte b ≡ true
hex_number b is = or_left (is_digit b 16) (b == 45 || (b == 120 || b == 88)) is

ten_number : (b : ℕ) → is_digit b 10 ≡ true → number_byte b ≡ true
ten_number b is =
    let low : digit_value b < 10 = ltb-true (digit_value b) 10 is in
    hex_number b (lt-ltb (digit_value b) 16 (omega arith))

if_some : (b : Bool) (n : ℕ) → is_some (cond b (Some n) None) ≡ true → b ≡ true
if_some true n e = refl
if_some false n e = e

natural_digits : (radix limit : ℕ) (ds : List ℕ) → is_some (natural_of radix limit ds) ≡ true → All (λ b. is_digit b radix ≡ true) ds
unfolding natural_of
natural_digits radix limit ds some =
    let both = if_some (is_numeral radix ds && nat_lt (digits_value radix ds) limit) (digits_value radix ds) some in
    let (numeral, small) = and_parts (is_numeral radix ds) (nat_lt (digits_value radix ds) limit) both in
    let (long, digits) = and_parts _ _ numeral in
    AllPass-from_list_all (λ c. is_digit c radix) ds digits

some_map : {A B : Type 0} (f : A → B) (o : Option A) → is_some (option_map f o) ≡ true → is_some o ≡ true
some_map f None e = e
some_map f (Some x) e = refl

number_ten : (ds : List ℕ) → All (λ b. is_digit b 10 ≡ true) ds → All (λ b. number_byte b ≡ true) ds
number_ten ds all = λ k d lt. ten_number (get_or ds k d) (all k d lt)

number_hex : (ds : List ℕ) → All (λ b. is_digit b 16 ≡ true) ds → All (λ b. number_byte b ≡ true) ds
number_hex ds all = λ k d lt. hex_number (get_or ds k d) (all k d lt)

signed : (text : List ℕ) → starts_with_minus text ≡ true → All (λ b. number_byte b ≡ true) (drop 1 text) → All (λ b. number_byte b ≡ true) text
signed [] minus all = All-nil (λ b. number_byte b ≡ true)
signed (b ∷ bs) minus all =
    let is : b ≡ 45 = eqb-true b 45 minus in
    All-cons (λ x. number_byte x ≡ true) b bs (rw is refl) all

pub int_bytes : (text : List ℕ) → is_some (int_of text) ≡ true → All (λ b. number_byte b ≡ true) text
int_bytes text some = elim (cases_Bool (starts_with_minus text)) [
  | inl e ↦ signed text e (number_ten (drop 1 text) (natural_digits 10 _ (drop 1 text) (some_map negated _ (rw e at some))))
  | inr e ↦ number_ten text (natural_digits 10 _ text (some_map _ _ (rw e at some)))
]

x_byte : (b : ℕ) → (b == 120 || b == 88) ≡ true → number_byte b ≡ true
x_byte b is = or_right (is_digit b 16) (b == 45 || (b == 120 || b == 88)) (or_right (b == 45) (b == 120 || b == 88) is)

prefixed : (text : List ℕ) → has_hex_prefix text ≡ true → All (λ b. number_byte b ≡ true) (drop 2 text) → All (λ b. number_byte b ≡ true) text
prefixed [] has all = All-nil (λ b. number_byte b ≡ true)
prefixed (b ∷ []) has all =
    let (zero_first, x) = and_parts (b == 48) (slice_second == 120 || slice_second == 88) has in absurd (true≢false (sym x))
  where
    slice_second : ℕ
    slice_second = 0
prefixed (b ∷ c ∷ bs) has all =
    let (zero_first, x) = and_parts (b == 48) (c == 120 || c == 88) has in
    let is : b ≡ 48 = eqb-true b 48 zero_first in
    All-cons (λ x. number_byte x ≡ true) b (c ∷ bs) (rw is refl) (All-cons (λ x. number_byte x ≡ true) c bs (x_byte c x) all)

pub hex_bytes : (text : List ℕ) → is_some (hex_of text) ≡ true → All (λ b. number_byte b ≡ true) text
hex_bytes text some = elim (cases_Bool (has_hex_prefix text)) [
  | inl e ↦ prefixed text e (number_hex (drop 2 text) (natural_digits 16 _ (drop 2 text) (rw e at (some_map _ _ some))))
  | inr e ↦ number_hex text (natural_digits 16 _ text (rw e at (some_map _ _ some)))
]

pub number_plain : (text : List ℕ) → All (λ b. number_byte b ≡ true) text → EndsPlainly text
number_plain text all = plain_by number_byte text refl refl refl all

pub number_no_lf : (text : List ℕ) → All (λ b. number_byte b ≡ true) text → HasNoLf text
number_no_lf text all = no_lf_by number_byte text refl all

-- Escaped texts.
pub escape_no_lf : (text : List ℕ) → HasNoLf text → HasNoLf (escape text)
escape_no_lf [] none = All-nil (λ b. (b == 10) ≡ false)
escape_no_lf (b ∷ text) none =
    All-append (λ x. (x == 10) ≡ false) (first (eqb b 34 || eqb b 92)) (escape text) (one (eqb b 34 || eqb b 92) (none 0 b (omega arith))) (escape_no_lf text (λ k d lt. none (suc k) d (omega arith)))
  where
    first : Bool → List ℕ
    first special = cond special (92 ∷ b ∷ []) (b ∷ [])

    one : (special : Bool) → eqb b 10 ≡ false → HasNoLf (first special)
    one true other = All-cons (λ x. (x == 10) ≡ false) 92 (b ∷ []) refl (All-cons (λ x. (x == 10) ≡ false) b [] other (All-nil (λ x. (x == 10) ≡ false)))
    one false other = All-cons (λ x. (x == 10) ≡ false) b [] other (All-nil (λ x. (x == 10) ≡ false))
