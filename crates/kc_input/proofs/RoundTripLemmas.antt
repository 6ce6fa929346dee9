-- What is written, read again.
use Rattle.std.proofs.{Common.{Bool, List, None, Some, [], ap, append_assoc, arith, codes, cond, eqb, false, get_or, inl, inr, length, length-append, refl, subst, suc, sym, true, ℕ, ◌++◌, ◌-◌, ◌<◌, ◌∙◌, ◌∷◌, ◌≡◌, ◌≤◌, ◌⊎◌}, Math.Seq.{drop-append-add, drop-append_seam, get_or-append_seam, take-append_seam}, lemmas.{Bool.{and_parts, cases_Bool, le-leb, lt-ltb, ne_eqb, or_from, or_parts}, List.{Elements.All-append, Folds.list_any_none, Sums.AllPass-from_list_all, reverse-append, take_all}, Slice.Eq.bytes_eq-Decides}}
use Rattle.std.specs.{List.{list_any, position_or_len, suffix_len}, Option.option_and_then, Prelude.{All, nat_le, option_map, ◌+◌, ◌==◌, ◌||◌}, Str.{Lines.strip_carriage_return, bytes_eq}}
use Rattle.kc_language.specs.{ConfigFile.{Set, Unset, is_prefix, meaning_of, name_and_value, raw_string, unset_name, until_quote, without_prefix, without_suffix}, Expressions.{SymbolValue, TextValue, Truth, is_name_byte}, Text.escape, Texts.{EndsPlainly, config_file_line}, Tokens.is_blank, Values.GivenText, declared.expressions.Tri.TheVariants.{M, N, Y}}
use Rattle.kc_language.specs.declared.expressions.SymbolType.TheVariants as symbol_type
use Rattle.kc_input.specs.{PartsOfConfigFile.{between_quotes, is_comment, is_equals, plain, preceded, split_at_equals, trimmed}, PartsOfTexts.is_end_byte, RoundTrip.{IsName, IsShortText, SetLineReadAgain, StringReadAgain, UnsetLineReadAgain}}
use Rattle.kc_text.proofs.Unescaping.{unescape_law}
use Rattle.kc_input.proofs.EscapeLemmas.{escape_longer}

same_bytes : (bytes : List ℕ) → bytes_eq bytes bytes ≡ true
same_bytes bytes = let d = bytes_eq-Decides bytes bytes in d.1 refl

without_prefix-front : (front rest : List ℕ) → without_prefix front (front ++ rest) ≡ Some rest
without_prefix-front front rest = rw (take-append_seam front rest, same_bytes front, drop-append_seam front rest) refl

without_suffix-end : (front end : List ℕ) → without_suffix end (front ++ end) ≡ Some front
without_suffix-end front end =
    let k : length (front ++ end) - length end ≡ length front = omega (arith, length-append front end) in
    rw (k, drop-append_seam front end, same_bytes end, take-append_seam front end) refl

-- a byte of a name is not this other byte
pub name_not : (b c : ℕ) → is_name_byte c ≡ false → is_name_byte b ≡ true → eqb b c ≡ false
name_not b c other named = ne_eqb b c (λ e. let f = ap is_name_byte e in cc)

pub name_no_blank : (b : ℕ) → is_name_byte b ≡ true → is_blank b ≡ false
name_no_blank b named = or_from (eqb b 32) (eqb b 9) (name_not b 32 refl named) (name_not b 9 refl named)

plain-name : (name : List ℕ) → IsName name → plain name ≡ Some name
plain-name name is =
    let some : 0 < length name = is.some in
    let none : list_any is_blank name ≡ false = list_any_none is_blank name (λ k d lt. name_no_blank (get_or name k d) (is.bytes k d lt)) in
    rw (lt-ltb 0 (length name) some, none) refl

-- no blank ends the line
pub trimmed-solid : (front : List ℕ) (b : ℕ) → is_blank b ≡ false → trimmed (front ++ b ∷ []) ≡ front ++ b ∷ []
trimmed-solid front b solid =
    let s : suffix_len is_blank (front ++ b ∷ []) ≡ 0 = rw (reverse-append, solid) refl in
    rw s (take_all (length (front ++ b ∷ []) - 0) (front ++ b ∷ []) (omega arith))

-- A text as its front and its last byte.
last_cases : (text : List ℕ) → (text ≡ []) ⊎ ((front : List ℕ) × (b : ℕ) × (text ≡ front ++ b ∷ []))
last_cases [] = inl refl
last_cases (x ∷ text) = elim (last_cases text) [
  | inl e ↦ inr ([], x, ap (λ t. x ∷ t) e)
  | inr (front, b, e) ↦ inr (x ∷ front, b, ap (λ t. x ∷ t) e)
]

pub strip_solid : (front : List ℕ) (b : ℕ) → eqb b 13 ≡ false → strip_carriage_return (front ++ b ∷ []) ≡ front ++ b ∷ []
strip_solid front b other =
    let n : length (front ++ b ∷ []) - 1 ≡ length front = omega (arith, length-append front (b ∷ [])) in
    rw (n, get_or-append_seam front b [] 0, other) refl

-- a line that ends plainly keeps all of its bytes
pub record Whole (text : List ℕ) : Type 0 where
  pub trimmed_is : trimmed text ≡ text
  pub strip_is : strip_carriage_return text ≡ text

whole_by : (front : List ℕ) (b : ℕ) (text : List ℕ) → text ≡ front ++ b ∷ [] → is_end_byte b ≡ false → Whole text
whole_by front b text is plain =
    let (blank, return) = or_parts _ _ plain in
    subst Whole (sym is) (record { trimmed_is = trimmed-solid front b blank; strip_is = strip_solid front b return })

whole_set : (front value : List ℕ) → EndsPlainly value → Whole (front ++ 61 ∷ value)
whole_set front value plain = elim (last_cases value) [
  | inl e ↦ whole_by front 61 (front ++ 61 ∷ value) (ap (λ t. front ++ 61 ∷ t) e) refl
  | inr (init, b, e) ↦ whole_by (front ++ 61 ∷ init) b (front ++ 61 ∷ value) (ap (λ t. front ++ 61 ∷ t) e ∙ sym (append_assoc front (61 ∷ init) (b ∷ []))) (plain init b e)
]

regroup : (a p n t : List ℕ) → (a ++ (p ++ n)) ++ t ≡ a ++ (p ++ (n ++ t))
regroup a p n t = simp append_assoc

-- the name between these words
unset_by : (hash prefix name tail : List ℕ) → IsName name →
    option_and_then plain (option_and_then (without_suffix tail) (option_and_then (without_prefix prefix) (without_prefix hash ((hash ++ (prefix ++ name)) ++ tail)))) ≡ Some name
unset_by hash prefix name tail is =
    rw (regroup hash prefix name tail, without_prefix-front hash (prefix ++ (name ++ tail)), without_prefix-front prefix (name ++ tail), without_suffix-end name tail) (plain-name name is)

unset_text_read : (prefix name : List ℕ) → IsName name → meaning_of prefix ((codes "# " ++ (prefix ++ name)) ++ codes " is not set") ≡ Unset name
unset_text_read prefix name is =
    let front : List ℕ = (codes "# " ++ (prefix ++ name)) ++ codes " is not se" in
    let e : (codes "# " ++ (prefix ++ name)) ++ codes " is not set" ≡ front ++ 116 ∷ [] = sym (append_assoc (codes "# " ++ (prefix ++ name)) (codes " is not se") (116 ∷ [])) in
    let whole : trimmed ((codes "# " ++ (prefix ++ name)) ++ codes " is not set") ≡ (codes "# " ++ (prefix ++ name)) ++ codes " is not set" =
    ap trimmed e ∙ trimmed-solid front 116 refl ∙ sym e in
    let unset : unset_name prefix ((codes "# " ++ (prefix ++ name)) ++ codes " is not set") ≡ Some name = unset_by (codes "# ") prefix name (codes " is not set") is in
    let long : (length ((codes "# " ++ (prefix ++ name)) ++ codes " is not set") == 0) ≡ false =
    ne_eqb (length ((codes "# " ++ (prefix ++ name)) ++ codes " is not set")) 0 (let l = length-append (codes "# " ++ (prefix ++ name)) (codes " is not set") in omega arith) in
    rw (whole, long, unset) refl

pub unset_read_again : UnsetLineReadAgain
unset_read_again prefix name is =
    let front : List ℕ = (codes "# " ++ (prefix ++ name)) ++ codes " is not se" in
    let e : (codes "# " ++ (prefix ++ name)) ++ codes " is not set" ≡ front ++ 116 ∷ [] = sym (append_assoc (codes "# " ++ (prefix ++ name)) (codes " is not se") (116 ∷ [])) in
    let whole = whole_by front 116 ((codes "# " ++ (prefix ++ name)) ++ codes " is not set") e refl in
    rw whole.strip_is (unset_text_read prefix name is)

first_byte : (all : List ℕ) → 0 < length all → All (λ b. is_name_byte b ≡ true) all → (b : ℕ) × (rest : List ℕ) × (all ≡ b ∷ rest) × (is_name_byte b ≡ true)
first_byte [] some named = absurd (omega arith)
first_byte (b ∷ rest) some named = (b, rest, refl, named 0 b (omega arith))

position-equals : (name value : List ℕ) → All (λ b. is_name_byte b ≡ true) name → position_or_len is_equals (name ++ 61 ∷ value) ≡ length name
position-equals [] value named = refl
position-equals (b ∷ name) value named =
    let other : eqb b 61 ≡ false = name_not b 61 refl (named 0 b (omega arith)) in
    let later : position_or_len is_equals (name ++ 61 ∷ value) ≡ length name = position-equals name value (λ k d lt. named (suc k) d (omega arith)) in
    rw (other, later) (omega arith)

split_at_equals-name : (name value : List ℕ) → IsName name → split_at_equals (name ++ 61 ∷ value) ≡ Some (name, value)
split_at_equals-name name value is =
    let some : 0 < length name = is.some in
    let within : length name < length (name ++ 61 ∷ value) = omega (arith, length-append name (61 ∷ value)) in
    rw (
      position-equals name value is.bytes,
      lt-ltb 0 (length name) some,
      lt-ltb (length name) (length (name ++ 61 ∷ value)) within,
      take-append_seam name
          (61 ∷ value),
      drop-append-add name (61 ∷ value) 1,
    ) refl

pub prefix_bytes : (prefix : List ℕ) → is_prefix prefix ≡ true → All (λ b. is_name_byte b ≡ true) prefix
prefix_bytes prefix is =
    let (front, rest) = and_parts _ _ is in
    let (short, named) = and_parts _ _ rest in
    AllPass-from_list_all is_name_byte prefix named

-- a line that begins with a byte of a name is none of the others
not_other : (prefix : List ℕ) (b : ℕ) (rest : List ℕ) → is_name_byte b ≡ true → (unset_name prefix (b ∷ rest) ≡ None) × (is_comment (b ∷ rest) ≡ false)
not_other prefix b rest named =
    let hash : eqb b 35 ≡ false = name_not b 35 refl named in
    let solid : is_blank b ≡ false = name_no_blank b named in
    (rw hash refl, rw (solid, hash) refl)

set_text_read : (prefix name value : List ℕ) → is_prefix prefix ≡ true → IsName name →
    trimmed ((prefix ++ name) ++ 61 ∷ value) ≡ (prefix ++ name) ++ 61 ∷ value → meaning_of prefix ((prefix ++ name) ++ 61 ∷ value) ≡ Set name value
set_text_read prefix name value is_pre is whole =
    let both : All (λ b. is_name_byte b ≡ true) (prefix ++ name) = All-append (λ b. is_name_byte b ≡ true) prefix name (prefix_bytes prefix is_pre) is.bytes in
    let some : 0 < length (prefix ++ name) = let n = is.some in omega (arith, length-append prefix name) in
    let (b, rest, begins, named) = first_byte (prefix ++ name) some both in
    let text : (prefix ++ name) ++ 61 ∷ value ≡ b ∷ (rest ++ 61 ∷ value) = ap (λ t. t ++ 61 ∷ value) begins in
    let (no_unset, no_comment) = not_other prefix b (rest ++ 61 ∷ value) named in
    let unset : unset_name prefix ((prefix ++ name) ++ 61 ∷ value) ≡ None = rw text no_unset in
    let comment : is_comment ((prefix ++ name) ++ 61 ∷ value) ≡ false = rw text no_comment in
    let parts : name_and_value prefix ((prefix ++ name) ++ 61 ∷ value) ≡ Some (name, value) =
    rw (append_assoc prefix name (61 ∷ value), without_prefix-front prefix (name ++ 61 ∷ value)) (split_at_equals-name name value is) in
    let long : (length ((prefix ++ name) ++ 61 ∷ value) == 0) ≡ false = ne_eqb (length ((prefix ++ name) ++ 61 ∷ value)) 0 (let l = length-append (prefix ++ name) (61 ∷ value) in omega arith) in
    rw (whole, long, unset, comment, parts) refl

pub set_read_again : SetLineReadAgain
set_read_again prefix name value is_pre is plain =
    let whole = whole_set (prefix ++ name) value plain in
    rw whole.strip_is (set_text_read prefix name value is_pre is whole.trimmed_is)

-- an escaped text ends at the quote after it
until_quote-escaped : (text : List ℕ) → until_quote (escape text ++ 34 ∷ []) ≡ Some (escape text)
until_quote-escaped [] = refl
until_quote-escaped (b ∷ text) = elim (cases_Bool (eqb b 34 || eqb b 92)) [
  | inl e ↦ rw e (ap (preceded (92 ∷ b ∷ [])) (until_quote-escaped text))
  | inr e ↦ rw e (plain_byte b (escape text ++ 34 ∷ []) (or_parts _ _ e).0 (or_parts _ _ e).1 ∙ ap (preceded (b ∷ [])) (until_quote-escaped text))
]
  where
    plain_byte : (c : ℕ) (rest : List ℕ) → eqb c 34 ≡ false → eqb c 92 ≡ false → until_quote (c ∷ rest) ≡ preceded (c ∷ []) (until_quote rest)
    plain_byte c [] quote slash = rw quote refl
    plain_byte c (d ∷ rest) quote slash = rw (quote, slash) refl

-- a raw text is what stands between its quotes
pub raw_string-quoted : (text : List ℕ) → raw_string (34 ∷ text ++ 34 ∷ []) ≡ cond (nat_le (length (escape text) + 2) 65000) (Some text) None
raw_string-quoted text =
    let first : without_prefix (34 ∷ []) (34 ∷ text ++ 34 ∷ []) ≡ Some (text ++ 34 ∷ []) = without_prefix-front (34 ∷ []) (text ++ 34 ∷ []) in
    ap (λ o. option_and_then (λ t. cond (nat_le (length (escape t) + 2) 65000) (Some t) None) (option_and_then (without_suffix (34 ∷ [])) o)) first
    ∙ ap (option_and_then (λ t. cond (nat_le (length (escape t) + 2) 65000) (Some t) None)) (without_suffix-end text (34 ∷ []))

pub string_read_again : StringReadAgain
string_read_again true text short =
    let longer = escape_longer text in
    let within : length (34 ∷ text ++ 34 ∷ []) ≤ 65000 = omega (arith, length-append text (34 ∷ []), longer) in
    ap (λ b. cond b (option_map GivenText (raw_string (34 ∷ text ++ 34 ∷ []))) None) (le-leb (length (34 ∷ text ++ 34 ∷ [])) 65000 within)
    ∙ ap (option_map GivenText) (raw_string-quoted text ∙ ap (λ b. cond b (Some text) None) (le-leb (length (escape text) + 2) 65000 short))
string_read_again false text short =
    let within : length (34 ∷ escape text ++ 34 ∷ []) ≤ 65000 = omega (arith, length-append (escape text) (34 ∷ [])) in
    rw (le-leb (length (34 ∷ escape text ++ 34 ∷ [])) 65000 within, until_quote-escaped text, unescape_law text) refl

-- between its quotes a text has at most as many bytes as with escapes
pub between_short : (is_raw : Bool) (text : List ℕ) → length (between_quotes is_raw text) ≤ length (escape text)
between_short true text = escape_longer text
between_short false text = omega arith

module _ (is_raw : Bool) (prefix name : List ℕ) (few : length prefix ≤ 64) (short : length name ≤ 255) where
  whole_name : length (prefix ++ name) ≤ 319
  whole_name = omega (arith, length-append prefix name)

  pub written_short : (known : SymbolValue) → IsShortText known → length (config_file_line is_raw (prefix ++ name) known) ≤ 65323
  written_short (Truth N) fits = omega (arith, length-append (codes "# ") (prefix ++ name), length-append (codes "# " ++ (prefix ++ name)) (codes " is not set\n"), whole_name)
  written_short (Truth M) fits = omega (arith, length-append (prefix ++ name) (codes "=m\n"), whole_name)
  written_short (Truth Y) fits = omega (arith, length-append (prefix ++ name) (codes "=y\n"), whole_name)
  written_short (TextValue symbol_type.Undefined text) fits = omega arith
  written_short (TextValue symbol_type.Bool text) fits = omega arith
  written_short (TextValue symbol_type.Tristate text) fits = omega arith
  written_short (TextValue symbol_type.Str text) fits =
      let inner : List ℕ = between_quotes is_raw text in
      omega (
        arith,
        between_short is_raw text,
        length-append ((prefix ++ name) ++ codes "=" ++ (codes "\"" ++ inner ++ codes "\"")) (codes "\n"),
        length-append
            ((prefix ++ name) ++ codes "=") (codes "\"" ++ inner ++ codes "\""),
        length-append (codes "\"" ++ inner) (codes "\""),
        length-append (codes "\"") inner,
        length-append (prefix ++ name) (codes "="),
        whole_name,
      )
  written_short (TextValue symbol_type.Int text) fits =
      omega (arith, length-append ((prefix ++ name) ++ codes "=" ++ text) (codes "\n"), length-append ((prefix ++ name) ++ codes "=") text, length-append (prefix ++ name) (codes "="), whole_name)
  written_short (TextValue symbol_type.Hex text) fits =
      omega (arith, length-append ((prefix ++ name) ++ codes "=" ++ text) (codes "\n"), length-append ((prefix ++ name) ++ codes "=") text, length-append (prefix ++ name) (codes "="), whole_name)
