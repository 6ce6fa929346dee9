-- Lines that begin with `#`: they say nothing, or unset a name.
use Rattle.std.proofs.{Common.{Bool, List, None, Option, Some, [], ap, append_assoc, arith, codes, cond, drop, eqb, false, get_or, inl, inr, length, not, refl, reverse, suc, sym, take, true, ℕ, ◌++◌, ◌+◌, ◌-◌, ◌∙◌, ◌∷◌, ◌≡◌, ◌≤◌, ◌⊎◌}, Math.Seq.take-append-add, lemmas.{Bool.{and_parts, false_from_ne_true, ne_eqb, not-true, true≢false}, List.{Elements.All-append, Folds.list_any_at, length-append, length-reverse, reverse-append, take-append-drop}, Slice.Eq.bytes_eq-Decides}}
use Rattle.std.specs.{List.{list_any, prefix_len, suffix_len}, Option.option_and_then, Prelude.{All, nat_lt, slice_index, ◌==◌}, Str.{Lines.strip_carriage_return, bytes_eq}}
use Rattle.kc_language.specs.{ConfigFile.{Nothing, Unset, effect_of, is_prefix, meaning_of, unset_name, without_prefix, without_suffix}, Symbols.TreeFacts, Texts.IsNotUnsetLine, Tokens.is_blank}
use Rattle.kc_input.specs.PartsOfConfigFile.{assignment_of, is_plain, meaning_of_text, plain, trimmed, unset_or}
use Rattle.kc_input.proofs.{RoundTripLemmas.{name_no_blank, prefix_bytes, strip_solid}, SymbolLineLemmas.last_byte}

-- What a byte that is no blank and no carriage return keeps in front of it.
prefix_stop : (p : ℕ → Bool) (xs : List ℕ) (b : ℕ) (ys : List ℕ) → p b ≡ false → prefix_len p (xs ++ b ∷ ys) ≤ length xs
prefix_stop p [] b ys e = rw e (omega arith)
prefix_stop p (x ∷ xs) b ys e = by (p x) (prefix_stop p xs b ys e)
  where
    by : (c : Bool) → prefix_len p (xs ++ b ∷ ys) ≤ length xs → cond c (1 + prefix_len p (xs ++ b ∷ ys)) 0 ≤ length (x ∷ xs)
    by true r = omega arith
    by false r = omega arith

suffix_stop : (p : ℕ → Bool) (front : List ℕ) (b : ℕ) (rest : List ℕ) → p b ≡ false → suffix_len p (front ++ b ∷ rest) ≤ length rest
suffix_stop p front b rest e =
    let turned : reverse (front ++ b ∷ rest) ≡ reverse rest ++ b ∷ reverse front =
    reverse-append front (b ∷ rest) ∙ ap (λ t. t ++ reverse front) (reverse-append (b ∷ []) rest) ∙ append_assoc (reverse rest) (b ∷ []) (reverse front) in
    let stop : prefix_len p (reverse rest ++ b ∷ reverse front) ≤ length (reverse rest) = prefix_stop p (reverse rest) b (reverse front) e in
    let n : length (reverse rest) ≡ length rest = length-reverse rest in
    let same : suffix_len p (front ++ b ∷ rest) ≡ prefix_len p (reverse rest ++ b ∷ reverse front) = ap (prefix_len p) turned in
    omega (arith, stop, n, same)

keeps_front : (front : List ℕ) (b : ℕ) (rest : List ℕ) (n : ℕ) → length front + 1 ≤ n → (more : List ℕ) × (take n (front ++ b ∷ rest) ≡ front ++ b ∷ more)
keeps_front front b rest n le =
    let k : n ≡ length front + suc (n - (length front + 1)) = omega arith in
    (take (n - (length front + 1)) rest, ap (λ m. take m (front ++ b ∷ rest)) k ∙ take-append-add front (b ∷ rest) (suc (n - (length front + 1))))

trimmed_front : (front : List ℕ) (b : ℕ) (rest : List ℕ) → is_blank b ≡ false → (more : List ℕ) × (trimmed (front ++ b ∷ rest) ≡ front ++ b ∷ more)
trimmed_front front b rest e =
    let s = suffix_stop is_blank front b rest e in
    keeps_front front b rest (length (front ++ b ∷ rest) - suffix_len is_blank (front ++ b ∷ rest)) (omega (arith, s, length-append front (b ∷ rest)))

strip_front : (front : List ℕ) (b : ℕ) (rest : List ℕ) → eqb b 13 ≡ false → (more : List ℕ) × (strip_carriage_return (front ++ b ∷ rest) ≡ front ++ b ∷ more)
strip_front front b [] e = ([], strip_solid front b e)
strip_front front b (x ∷ rest) e = by (slice_index (front ++ b ∷ x ∷ rest) (length (front ++ b ∷ x ∷ rest) - 1) == 13)
  where
    by : (c : Bool) → (more : List ℕ) × (cond c (take (length (front ++ b ∷ x ∷ rest) - 1) (front ++ b ∷ x ∷ rest)) (front ++ b ∷ x ∷ rest) ≡ front ++ b ∷ more)
    by true = keeps_front front b (x ∷ rest) (length (front ++ b ∷ x ∷ rest) - 1) (omega (arith, length-append front (b ∷ x ∷ rest)))
    by false = (x ∷ rest, refl)

-- What is read of such a line.
says_by : (prefix : List ℕ) (rest : List ℕ) → meaning_of_text prefix (35 ∷ rest) ≡ unset_or (unset_name prefix (35 ∷ rest)) Nothing
says_by prefix rest =
    let long : (length (35 ∷ rest) == 0) ≡ false = ne_eqb (length (35 ∷ rest)) 0 (λ e. absurd (omega arith)) in
    rw long refl

either_said : (o : Option (List ℕ)) → (unset_or o Nothing ≡ Nothing) ⊎ ((name : List ℕ) × (unset_or o Nothing ≡ Unset name) × (o ≡ Some name))
either_said None = inl refl
either_said (Some name) = inr (name, refl, refl)

-- the text that is read of a line, once its end is dropped
abbrev text_read : List ℕ → List ℕ
text_read bytes = trimmed (strip_carriage_return bytes)

pub read_front : (front : List ℕ) (b : ℕ) (rest : List ℕ) → is_blank b ≡ false → eqb b 13 ≡ false → (more : List ℕ) × (text_read (front ++ b ∷ rest) ≡ front ++ b ∷ more)
read_front front b rest blank return =
    let (kept, is) = strip_front front b rest return in
    let (more, then_) = trimmed_front front b kept blank in
    (more, ap trimmed is ∙ then_)

-- it says nothing, or unsets a name that it writes
pub comment_says : (prefix bytes : List ℕ) → (meaning_of prefix (strip_carriage_return (35 ∷ bytes)) ≡ Nothing)
    ⊎ ((name : List ℕ) × (meaning_of prefix (strip_carriage_return (35 ∷ bytes)) ≡ Unset name) × (unset_name prefix (text_read (35 ∷ bytes)) ≡ Some name))
comment_says prefix bytes =
    let (more, is) = read_front [] 35 bytes refl refl in
    elim (either_said (unset_name prefix (35 ∷ more))) [
      | inl e ↦ inl (ap (meaning_of_text prefix) is ∙ says_by prefix more ∙ e)
      | inr (name, e, found) ↦ inr (name, ap (meaning_of_text prefix) is ∙ says_by prefix more ∙ e, ap (unset_name prefix) is ∙ found)
    ]

pub silent : (is_raw : Bool) (tree : TreeFacts) (prefix bytes : List ℕ) → ((name : List ℕ) → unset_name prefix (text_read (35 ∷ bytes)) ≡ Some name → ⊥) →
    assignment_of (effect_of is_raw tree (meaning_of prefix (strip_carriage_return (35 ∷ bytes)))) ≡ None
silent is_raw tree prefix bytes none = elim (comment_says prefix bytes) [
  | inl e ↦ rw e refl
  | inr (name, e, found) ↦ absurd (none name found)
]

pub silent_plain : (is_raw : Bool) (tree : TreeFacts) (prefix bytes : List ℕ) → IsNotUnsetLine prefix (35 ∷ bytes) → assignment_of (effect_of is_raw tree (meaning_of prefix (strip_carriage_return (35 ∷ bytes)))) ≡ None
silent_plain is_raw tree prefix bytes none = elim (comment_says prefix bytes) [
  | inl e ↦ rw e refl
  | inr (name, e, found) ↦ absurd (none name e)
]

-- A name that is unset is written between these words.
bytes_same : (xs ys : List ℕ) → bytes_eq xs ys ≡ true → xs ≡ ys
bytes_same xs ys e = let d = bytes_eq-Decides xs ys in d.0 e

if_then : (b : Bool) (x y : List ℕ) → cond b (Some x) None ≡ Some y → (b ≡ true) × (x ≡ y)
if_then true x y e = (refl, cc)
if_then false x y e = cc

behind_is : (front text rest : List ℕ) → without_prefix front text ≡ Some rest → text ≡ front ++ rest
behind_is front text rest e =
    let (same, is) = if_then (bytes_eq (take (length front) text) front) (drop (length front) text) rest e in
    sym (take-append-drop (length front) text) ∙ ap (λ t. t ++ drop (length front) text) (bytes_same (take (length front) text) front same) ∙ ap (λ t. front ++ t) is

ahead_is : (end text front : List ℕ) → without_suffix end text ≡ Some front → text ≡ front ++ end
ahead_is end text front e =
    let (same, is) = if_then (bytes_eq (drop (length text - length end) text) end) (take (length text - length end) text) front e in
    sym (take-append-drop (length text - length end) text) ∙ ap (λ t. take (length text - length end) text ++ t) (bytes_same (drop (length text - length end) text) end same) ∙ ap (λ t. t ++ end) is

then_some : (f : List ℕ → Option (List ℕ)) (o : Option (List ℕ)) (y : List ℕ) → option_and_then f o ≡ Some y → (x : List ℕ) × (o ≡ Some x) × (f x ≡ Some y)
then_some f None y e = cc
then_some f (Some x) y e = (x, refl, e)

pub unset_written : (prefix text name : List ℕ) → unset_name prefix text ≡ Some name → (text ≡ codes "# " ++ (prefix ++ (name ++ codes " is not set"))) × (is_plain name ≡ true)
unset_written prefix text name e =
    let (n, ahead, is_plain_name) = then_some plain (option_and_then (without_suffix (codes " is not set")) (option_and_then (without_prefix prefix) (without_prefix (codes "# ") text))) name e in
    let (rest, behind_prefix, at_end) = then_some (without_suffix (codes " is not set")) (option_and_then (without_prefix prefix) (without_prefix (codes "# ") text)) n ahead in
    let (body, hash, at_prefix) = then_some (without_prefix prefix) (without_prefix (codes "# ") text) rest behind_prefix in
    let (plain_is, same) = if_then (is_plain n) n name is_plain_name in (
      behind_is (codes "# ") text body hash
          ∙ ap (λ t. codes "# " ++ t) (behind_is prefix body rest at_prefix)
          ∙ ap (λ t. codes "# " ++ (prefix ++ t)) (ahead_is (codes " is not set") rest n at_end)
          ∙ ap (λ t. codes "# " ++ (prefix ++ (t ++ codes " is not set"))) same,
      sym (ap is_plain same) ∙ plain_is,
    )

-- a text with another last byte is none
pub unset_not_last : (prefix front : List ℕ) (b : ℕ) (name : List ℕ) → eqb 116 b ≡ false → unset_name prefix (front ++ b ∷ []) ≡ Some name → ⊥
unset_not_last prefix front b name other e =
    let w = unset_written prefix (front ++ b ∷ []) name e in
    let is : (codes "# " ++ (prefix ++ (name ++ codes " is not se"))) ++ 116 ∷ [] ≡ front ++ b ∷ [] = shift ∙ sym w.0 in
    let same : 116 ≡ b = last_byte (codes "# " ++ (prefix ++ (name ++ codes " is not se"))) front 116 b is in
    absurd (true≢false (ap (eqb 116) same ∙ other))
  where
    shift : (codes "# " ++ (prefix ++ (name ++ codes " is not se"))) ++ 116 ∷ [] ≡ codes "# " ++ (prefix ++ (name ++ codes " is not set"))
    shift = simp append_assoc

-- An end line unsets nothing.
heads : (x y : ℕ) (xs ys : List ℕ) → x ∷ xs ≡ y ∷ ys → (x ≡ y) × (xs ≡ ys)
heads x y xs ys e = (cc, cc)

not_end : (w rest tail : List ℕ) → All (λ b. is_blank b ≡ false) w → 101 ∷ 110 ∷ 100 ∷ 32 ∷ 111 ∷ rest ≡ w ++ 32 ∷ 105 ∷ tail → ⊥
not_end [] rest tail solid e = let (a, more) = heads 101 32 (110 ∷ 100 ∷ 32 ∷ 111 ∷ rest) (105 ∷ tail) e in absurd (omega arith)
not_end (w1 ∷ []) rest tail solid e =
    let (a, e2) = heads 101 w1 (110 ∷ 100 ∷ 32 ∷ 111 ∷ rest) (32 ∷ 105 ∷ tail) e in
    let (b, more) = heads 110 32 (100 ∷ 32 ∷ 111 ∷ rest) (105 ∷ tail) e2 in
    absurd (omega arith)
not_end (w1 ∷ w2 ∷ []) rest tail solid e =
    let (a, e2) = heads 101 w1 (110 ∷ 100 ∷ 32 ∷ 111 ∷ rest) (w2 ∷ 32 ∷ 105 ∷ tail) e in
    let (b, e3) = heads 110 w2 (100 ∷ 32 ∷ 111 ∷ rest) (32 ∷ 105 ∷ tail) e2 in
    let (c, more) = heads 100 32 (32 ∷ 111 ∷ rest) (105 ∷ tail) e3 in
    absurd (omega arith)
not_end (w1 ∷ w2 ∷ w3 ∷ []) rest tail solid e =
    let (a, e2) = heads 101 w1 (110 ∷ 100 ∷ 32 ∷ 111 ∷ rest) (w2 ∷ w3 ∷ 32 ∷ 105 ∷ tail) e in
    let (b, e3) = heads 110 w2 (100 ∷ 32 ∷ 111 ∷ rest) (w3 ∷ 32 ∷ 105 ∷ tail) e2 in
    let (c, e4) = heads 100 w3 (32 ∷ 111 ∷ rest) (32 ∷ 105 ∷ tail) e3 in
    let (d, e5) = heads 32 32 (111 ∷ rest) (105 ∷ tail) e4 in
    let (f, more) = heads 111 105 rest tail e5 in
    absurd (omega arith)
not_end (w1 ∷ w2 ∷ w3 ∷ w4 ∷ w) rest tail solid e =
    let (a, e2) = heads 101 w1 (110 ∷ 100 ∷ 32 ∷ 111 ∷ rest) (w2 ∷ w3 ∷ w4 ∷ w ++ 32 ∷ 105 ∷ tail) e in
    let (b, e3) = heads 110 w2 (100 ∷ 32 ∷ 111 ∷ rest) (w3 ∷ w4 ∷ w ++ 32 ∷ 105 ∷ tail) e2 in
    let (c, e4) = heads 100 w3 (32 ∷ 111 ∷ rest) (w4 ∷ w ++ 32 ∷ 105 ∷ tail) e3 in
    let (d, more) = heads 32 w4 (111 ∷ rest) (w ++ 32 ∷ 105 ∷ tail) e4 in
    absurd (true≢false (ap is_blank d ∙ solid 3 0 (omega arith)))

no_blanks : (name : List ℕ) → is_plain name ≡ true → All (λ b. is_blank b ≡ false) name
no_blanks name e =
    let (some, none) = and_parts (nat_lt 0 (length name)) (not (list_any is_blank name)) e in
    λ k d lt. false_from_ne_true _ (λ blank. absurd (true≢false (sym (list_any_at is_blank name k d lt blank) ∙ not-true _ none)))

pub end_unsets_nothing : (prefix text name : List ℕ) → is_prefix prefix ≡ true → unset_name prefix (text_read (codes "# end of " ++ text)) ≡ Some name → ⊥
end_unsets_nothing prefix text name is_pre e =
    let (more, is) = read_front (codes "# end o") 102 (32 ∷ text) refl refl in
    let (written, plain_is) = unset_written prefix (codes "# end o" ++ 102 ∷ more) name (sym (ap (unset_name prefix) is) ∙ e) in
    let solid : All (λ b. is_blank b ≡ false) (prefix ++ name) =
    All-append (λ b. is_blank b ≡ false) prefix name (λ k d lt. name_no_blank (get_or prefix k d) (prefix_bytes prefix is_pre k d lt)) (no_blanks name plain_is) in
    let (first, e2) = heads 35 35 (32 ∷ 101 ∷ 110 ∷ 100 ∷ 32 ∷ 111 ∷ 102 ∷ more) (32 ∷ (prefix ++ (name ++ codes " is not set"))) written in
    let (second, e3) = heads 32 32 (101 ∷ 110 ∷ 100 ∷ 32 ∷ 111 ∷ 102 ∷ more) (prefix ++ (name ++ codes " is not set")) e2 in
    not_end (prefix ++ name) (102 ∷ more) (codes "s not set") solid (e3 ∙ sym (append_assoc prefix name (codes " is not set")))
