-- Tools for the examples: when the first bytes of a line spell a token and nothing longer, and when a physical line is a logical line.
use Rattle.std.proofs.{Common.{All, Bool, IsTrue, List, [], ap, arith, codes, drop, false, inl, inr, length, refl, slice_index, subst, suc, sym, take, true, true≢false, zero, ℕ, ◌++◌, ◌∙◌, ◌∷◌, ◌≡◌, ◌≢◌, ◌≤◌}, lemmas.Bool.eq-eqb}
use Rattle.std.specs.{List.list_all, Prelude.{not, ◌&&◌, ◌==◌, ◌⊎◌}}
use Rattle.kc_language.specs.{Lines.{AreJoined, IsFirstLine, Physical, continues}, Text.byte, Tokens.{AQuoted, AWord, AnOp, IsLongest, IsQuotedBody, Lexeme, Spells, escaped, is_word_byte, nothing, op_text, plain}, declared.tokens.Op.Op}
use Rattle.kc_language.specs.declared.tokens.Op.TheVariants as ops

-- ---- Words

-- No word byte begins an operator or a quoted text, and no operator has three bytes.
op_begins : (o : Op) → is_word_byte (slice_index (op_text o) 0) ≡ false
op_begins = elim [ ops.Eq ↦ refl | _ ↦ refl ]

op_ends : (o : Op) → slice_index (op_text o) 2 ≡ 0
op_ends = elim [ ops.Eq ↦ refl | _ ↦ refl ]

quote_begins : (q : ℕ) → (q ≡ byte "\"") ⊎ (q ≡ byte "'") → is_word_byte q ≡ false
quote_begins q (inl e) = subst (λ b. is_word_byte b ≡ false) (sym e) refl
quote_begins q (inr e) = subst (λ b. is_word_byte b ≡ false) (sym e) refl

pub not_both : {b : Bool} → b ≡ true → b ≡ false → ⊥
not_both t f = true≢false (sym t ∙ f)

pub both : (b c : Bool) → (b && c) ≡ true → (b ≡ true) × (c ≡ true)
both true c e = (refl, e)
both false c e = absurd (true≢false (sym e))

all_word : (w : List ℕ) → list_all is_word_byte w ≡ true → All (λ b. IsTrue (is_word_byte b)) w
all_word [] e k d h = absurd (omega (arith, h))
all_word (b ∷ w) e zero d h = (both (is_word_byte b) _ e).0
all_word (b ∷ w) e (suc k) d h = all_word w (both (is_word_byte b) _ e).1 k d (omega (arith, h))

-- No word byte begins the text.
abbrev pub ends_word : List ℕ → Bool
ends_word [] = true
ends_word (b ∷ rest) = not (is_word_byte b)

pub not_true : (b : Bool) → not b ≡ true → b ≡ false
not_true false e = refl
not_true true e = absurd (true≢false (sym e))

-- No longer prefix is a word.
no_more : (w rest : List ℕ) → ends_word rest ≡ true → (m : ℕ) → m ≤ length (w ++ rest) → All (λ b. IsTrue (is_word_byte b)) (take m (w ++ rest)) →
    m ≤ length w
no_more [] [] e m h a = h
no_more [] (b ∷ rest) e zero h a = omega arith
no_more [] (b ∷ rest) e (suc m) h a = absurd (not_both (a 0 0 (omega arith)) (not_true (is_word_byte b) e))
no_more (b ∷ w) rest e zero h a = omega arith
no_more (b ∷ w) rest e (suc m) h a = omega (arith, no_more w rest e m (omega (arith, h)) (λ k d i. a (suc k) d (omega (arith, i))))

append_take : (w rest : List ℕ) → take (length w) (w ++ rest) ≡ w
append_take [] rest = refl
append_take (b ∷ w) rest = ap (λ v. b ∷ v) (append_take w rest)

append_length : (w rest : List ℕ) → length w ≤ length (w ++ rest)
append_length [] rest = omega arith
append_length (b ∷ w) rest = omega (arith, append_length w rest)

-- A word goes on to the first byte that is no word byte.
pub word : (b : ℕ) (w rest : List ℕ) → list_all is_word_byte (b ∷ w) ≡ true → ends_word rest ≡ true →
    IsLongest (b ∷ w ++ rest) (length (b ∷ w)) (AWord (b ∷ w))
word b w rest are ends =
    record { fits = append_length (b ∷ w) rest; spelled = (append_take (b ∷ w) rest, omega arith, all_word (b ∷ w) are); longest = longest }
  where
    is_b : is_word_byte b ≡ true
    is_b = (both (is_word_byte b) _ are).0

    longest : (m : ℕ) (y : Lexeme) → m ≤ length (b ∷ w ++ rest) → Spells (take m (b ∷ w ++ rest)) y → m ≤ length (b ∷ w)
    longest zero y h s = omega arith
    longest (suc m) (AWord v) h s = no_more (b ∷ w) rest ends (suc m) h (subst (λ v. All (λ b. IsTrue (is_word_byte b)) v) (sym s.0) s.2)
    longest (suc m) (AQuoted t) h s =
        absurd (not_both is_b (subst (λ x. is_word_byte x ≡ false) (sym (ap (λ v. slice_index v 0) s.3)) (quote_begins s.0 s.1)))
    longest (suc m) (AnOp o) h s = absurd (not_both is_b (subst (λ v. is_word_byte (slice_index v 0) ≡ false) (sym s) (op_begins o)))

-- ---- The operator `&&`

pub and_op : (rest : List ℕ) → IsLongest (codes "&& " ++ rest) 2 (AnOp ops.And)
and_op rest = record { fits = omega arith; spelled = refl; longest = longest }
  where
    others : (m : ℕ) (y : Lexeme) → Spells (take (suc (suc (suc m))) (codes "&& " ++ rest)) y → ⊥
    others m (AWord w) s = true≢false (sym (subst (λ v. All (λ x. IsTrue (is_word_byte x)) v) (sym s.0) s.2 0 0 (omega arith)))
    others m (AQuoted t) s = let first = ap (λ v. slice_index v 0) s.3 in
        elim s.1 [ inl e ↦ absurd (omega (arith, e, first)) | inr e ↦ absurd (omega (arith, e, first)) ]
    others m (AnOp o) s = absurd (omega (arith, ap (λ v. slice_index v 2) s, op_ends o))

    longest : (m : ℕ) (y : Lexeme) → m ≤ length (codes "&& " ++ rest) → Spells (take m (codes "&& " ++ rest)) y → m ≤ 2
    longest zero y h s = omega arith
    longest (suc zero) y h s = omega arith
    longest (suc (suc zero)) y h s = omega arith
    longest (suc (suc (suc m))) y h s = absurd (others m y s)

-- ---- Quoted texts without `"`, `\` and `$`

-- A byte that is none of them.
abbrev pub is_simple : ℕ → Bool
is_simple b = not (b == 34) && (not (b == 92) && not (b == 36))

is_not : (b c : ℕ) → not (b == c) ≡ true → b ≢ c
is_not b c e p = not_both (eq-eqb b c p) (not_true (b == c) e)

simple_parts : (b : ℕ) (t : List ℕ) → list_all is_simple (b ∷ t) ≡ true → (b ≢ 34) × (b ≢ 92) × (b ≢ 36) × (list_all is_simple t ≡ true)
simple_parts b t e =
    let first = both (is_simple b) _ e in let plain = both (not (b == 34)) _ first.0 in let last = both (not (b == 92)) _ plain.1 in
    (is_not b 34 plain.0, is_not b 92 last.0, is_not b 36 last.1, first.1)

simple_body : (t : List ℕ) → list_all is_simple t ≡ true → IsQuotedBody 34 t
simple_body [] e = nothing
simple_body (b ∷ t) e = let s = simple_parts b t e in plain s.0 s.1 (simple_body t s.3)

-- No longer prefix ends in its first quote that is not escaped.
ends_at_quote : (t u rest : List ℕ) (m : ℕ) → IsQuotedBody 34 t → m ≤ length (t ++ 34 ∷ rest) → IsQuotedBody 34 u →
    take m (t ++ 34 ∷ rest) ≡ u ++ 34 ∷ [] → list_all is_simple t ≡ true → m ≤ suc (length t)
ends_at_quote [] u rest zero b h v e s = omega arith
ends_at_quote [] u rest (suc zero) b h v e s = omega arith
ends_at_quote [] u [] (suc (suc m)) b h v e s = h
ends_at_quote [] u (x ∷ rest) (suc (suc m)) b h nothing e s = absurd (omega (arith, ap length e))
ends_at_quote [] u (x ∷ rest) (suc (suc m)) b h (plain p q v) e s = absurd (p (sym (ap (λ v. slice_index v 0) e)))
ends_at_quote [] u (x ∷ rest) (suc (suc m)) b h (escaped v) e s = absurd (omega (arith, ap (λ v. slice_index v 0) e))
ends_at_quote (c ∷ t) u rest zero b h v e s = omega arith
ends_at_quote (c ∷ t) u rest (suc m) b h nothing e s = absurd ((simple_parts c t s).0 (ap (λ v. slice_index v 0) e))
ends_at_quote (c ∷ t) u rest (suc m) b h (plain {bs = u'} p q v) e s = let more = (simple_parts c t s).3 in
    omega (arith, ends_at_quote t u' rest m (simple_body t more) (omega (arith, h)) v (ap (drop 1) e) more)
ends_at_quote (c ∷ t) u rest (suc m) b h (escaped v) e s = absurd ((simple_parts c t s).1 (ap (λ v. slice_index v 0) e))

quote_fits : (t rest : List ℕ) → suc (length t) ≤ length (t ++ 34 ∷ rest)
quote_fits [] rest = omega arith
quote_fits (b ∷ t) rest = omega (arith, quote_fits t rest)

quote_take : (t rest : List ℕ) → take (suc (length t)) (t ++ 34 ∷ rest) ≡ t ++ 34 ∷ []
quote_take [] rest = refl
quote_take (b ∷ t) rest = ap (λ v. b ∷ v) (quote_take t rest)

-- Such a quoted text goes on to its second `"`.
pub quoted : (t rest : List ℕ) → list_all is_simple t ≡ true → IsLongest (34 ∷ t ++ 34 ∷ rest) (suc (suc (length t))) (AQuoted t)
quoted t rest are = record {
  fits = omega (arith, quote_fits t rest);
  longest = longest;
  spelled = (34, inl refl, simple_body t are, ap (λ v. 34 ∷ v) (quote_take t rest));
}
  where
    some : (m : ℕ) → suc m ≤ length (34 ∷ t ++ 34 ∷ rest) → m ≤ length (t ++ 34 ∷ rest)
    some m h = omega (arith, h)

    longest : (m : ℕ) (y : Lexeme) → m ≤ length (34 ∷ t ++ 34 ∷ rest) → Spells (take m (34 ∷ t ++ 34 ∷ rest)) y → m ≤ suc (suc (length t))
    longest zero y h s = omega arith
    longest (suc m) (AWord w) h s = absurd (true≢false (sym (subst (λ v. All (λ x. IsTrue (is_word_byte x)) v) (sym s.0) s.2 0 0 (omega arith))))
    longest (suc m) (AQuoted u) h s = let q_is : 34 ≡ s.0 = ap (λ v. slice_index v 0) s.3 in
        omega (
          arith,
          ends_at_quote t u rest m (simple_body t are) (some m h) (subst (λ q. IsQuotedBody q u) (sym q_is) s.2)
              (subst (λ q. take m (t ++ 34 ∷ rest) ≡ u ++ q ∷ []) (sym q_is) (ap (drop 1) s.3)) are,
        )
    longest (suc m) (AnOp o) h s = absurd (no_op o s)
      where
        no_op : (o : Op) → 34 ∷ take m (t ++ 34 ∷ rest) ≡ op_text o → ⊥
        no_op = elim [ ops.Eq ↦ λ e. omega (arith, ap (λ v. slice_index v 0) e) | _ ↦ λ e. omega (arith, ap (λ v. slice_index v 0) e) ]

-- ---- Lines

-- A physical line that does not continue is a logical line.
pub one_line : (l : Physical) (ls : List Physical) → continues l ≡ false → IsFirstLine (l ∷ ls) (l ∷ []) ls
one_line l ls ends = record { split = refl; joined = tt; longest = longest }
  where
    longest : (other rest : List Physical) → l ∷ ls ≡ other ++ rest → AreJoined other → length other ≤ 1
    longest [] rest e j = omega arith
    longest (k ∷ []) rest e j = omega arith
    longest (k ∷ m ∷ more) rest e j = absurd (not_both j.0 (ap first (sym e) ∙ ends))
      where
        first : List Physical → Bool
        first [] = false
        first (x ∷ xs) = continues x
