-- Places that are empty or filled, and the length of an escaped text.
use Rattle.std.proofs.{Common.{Err, List, None, Ok, Option, Result, Some, [], ap, arith, cond, count_by, false, inl, inr, leb, length, length-append, map, refl, replicate, slice_set, suc, sym, zero, ℕ, ◌+◌, ◌<◌, ◌∙◌, ◌∷◌, ◌≡◌}, lemmas.{Bool.{cases_Bool, lt-leb}, List.{Sums.sum_by-cons, map-set}}}
use Rattle.std.specs.{Prelude.option_map, Result.{OnErr, OnOk}}
use Rattle.kc_language.specs.{ConfigFile.Places, Symbols.TreeFacts, Text.escape, Values.GivenValue, declared.expressions.SymId.SymId}
use Rattle.kc_text.specs.PartsOfText.{escape_byte, is_escaped}
use Rattle.kc_user.specs.{PartsOfConfigFile.no_places, ValueView.given_of_value, declared.value.UserValue.UserValue}

-- an empty place shows nothing
pub map-replicate : {X Y : Type 0} (f : X → Y) (n : ℕ) (x : X) → map f (replicate n x) ≡ replicate n (f x)
map-replicate f zero x = refl
map-replicate f (suc n) x = ap (λ ys. f x ∷ ys) (map-replicate f n x)

-- all places are empty
pub empties : (tree : TreeFacts) (symbols : List (Option UserValue)) (choices : List (Option SymId)) (n m : ℕ) →
    symbols ≡ replicate n None → choices ≡ replicate m None → n ≡ length tree.symbols → m ≡ length tree.choices →
    let new : Places = record { symbols = map (option_map given_of_value) symbols; choices = choices } in
    new ≡ no_places tree
empties tree symbols choices n m are are_too count count_too =
    let e : map (option_map given_of_value) symbols ≡ replicate (length tree.symbols) None =
    rw are (map-replicate (option_map given_of_value) n None ∙ ap (λ (k : ℕ). replicate k None) count) in
    let f : choices ≡ replicate (length tree.choices) None = are_too ∙ ap (λ (k : ℕ). replicate k None) count_too in
    rw (e, f) refl

-- one place is filled
pub fills : (items : List (Option UserValue)) (choices : List (Option SymId)) (i : ℕ) (value : UserValue) →
    let new : Places = record { symbols = map (option_map given_of_value) (slice_set items i (Some value)); choices = choices } in
    new ≡ record { symbols = slice_set (map (option_map given_of_value) items) i (Some (given_of_value value)); choices = choices }
fills items choices i value =
    ap (λ (s : List (Option GivenValue)). let p : Places = record { symbols = s; choices = choices } in p) (map-set (option_map given_of_value) items i (Some value))

one_byte : (b : ℕ) → length (escape_byte b) ≡ 1 + cond (is_escaped b) 1 0
one_byte b = elim (cases_Bool (is_escaped b)) [
  | inl e ↦ rw e refl
  | inr e ↦ rw e refl
]

-- a `\` goes before each special byte
pub length-escape : (text : List ℕ) → length (escape text) ≡ length text + count_by is_escaped text
length-escape [] = refl
length-escape (b ∷ bs) =
    let e = length-append (escape_byte b) (escape bs) in
    let s = sum_by-cons (λ x. cond (is_escaped x) 1 0) b bs in
    omega (arith, e, s, one_byte b, length-escape bs)

-- the text, quoted and escaped, has at most so many bytes
pub quoted_within : (text : List ℕ) (limit : ℕ) → leb (length text + count_by is_escaped text + 2) limit ≡ leb (length (escape text) + 2) limit
quoted_within text limit = rw length-escape refl

pub quoted_over : (text : List ℕ) (limit : ℕ) → limit < length text → false ≡ leb (length (escape text) + 2) limit
quoted_over text limit over =
    let long : limit < length (escape text) + 2 = omega (arith, length-escape text) in
    sym (lt-leb (length (escape text) + 2) limit long)

-- what follows where a call succeeds
pub on_ok : {X E : Type 0} (r : Result X E) (P Q : Type 0) → (P → Q) → OnOk r P → OnOk r Q
on_ok (Ok x) P Q f p = f p
on_ok (Err e) P Q f p = p

-- and where it fails
pub on_err : {X E : Type 0} (r : Result X E) (P Q : Type 0) → (P → Q) → OnErr r P → OnErr r Q
on_err (Ok x) P Q f p = p
on_err (Err e) P Q f p = f p
