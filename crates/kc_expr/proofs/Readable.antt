-- What an expression of a line means can be read back.
use Rattle.std.proofs.{Common.{Bool, List, [], ap, cond, false, get_or, inl, inr, length, one-add, refl, subst, sym, true, true≢false, ℕ, ◌++◌, ◌+◌, ◌<◌, ◌∙◌, ◌∷◌, ◌≡◌, ◌≢◌}, lemmas.{Bool.{cases_Bool, eqb-true}, List.Elements.{All-cons, All-head, All-tail, recursion_from_All}}}
use Rattle.std.specs.{List.{AllByRecursion, list_any}, Prelude.{All, IsTrue, if◌then◌else◌, is_some, not, ◌&&◌, ◌==◌, ◌||◌}}
use Rattle.kc_language.specs.{ExpressionTexts.{AreReadable, IsNumberedToken, IsOperand, IsReadable, MeaningsAreReadable, has_two}, Expressions.{Atom, Chain, Close, Form, Leaf, LoneM, MoreForms, Negation, OperandToken, Part, QuotedAtom, Single, Symbol, Terminal, Text, WordAtom, bang, compare, conjunction, forms, group, if_word, joined, leaf, lone, meaning, meaning_not, meaning_part, negation, number_of, only, parts, same_name, spell, spell_not, spell_part, symbol, tri_text, tristate_constant}, Symbols.name_by, Text.unescape, Tokens.is_word_byte, declared.expressions.{Connective.{Connective, TheVariants.{And, Or}}, Tri.TheVariants.M}}

both : (b c : Bool) → (b && c) ≡ true → (b ≡ true) × (c ≡ true)
both true c e = (refl, e)
both false c e = absurd (true≢false (sym e))

same_is : (v w : List ℕ) → same_name v w ≡ true → v ≡ w
same_is [] [] e = refl
same_is [] (b ∷ w) e = absurd (true≢false (sym e))
same_is (a ∷ v) [] e = absurd (true≢false (sym e))
same_is (a ∷ v) (b ∷ w) e = let h = both (a == b) (same_name v w) e in ap (λ x. x ∷ v) (eqb-true a b h.0) ∙ ap (λ u. b ∷ u) (same_is v w h.1)

-- the name of the number of a mentioned name
name_of : (names : List (List ℕ)) (w : List ℕ) → list_any (same_name w) names ≡ true → get_or names (number_of names w) [] ≡ w
name_of [] w h = absurd (true≢false (sym h))
name_of (x ∷ xs) w h = by (same_name w x) refl h (name_of xs w)
  where
    by : (b : Bool) → same_name w x ≡ b → (b || list_any (same_name w) xs) ≡ true → (list_any (same_name w) xs ≡ true → get_or xs (number_of xs w) [] ≡ w) →
        get_or (x ∷ xs) (cond (not b) (1 + number_of xs w) 0) [] ≡ w
    by true e h rest = sym (same_is w x e)
    by false e h rest = ap (λ k. get_or (x ∷ xs) k []) (one-add (number_of xs w)) ∙ rest h

no_dollar : (b : ℕ) → is_word_byte b ≡ true → b ≢ 36
no_dollar b h e = true≢false (sym (subst (λ b. is_word_byte b ≡ true) e h))

unescaped : (q : List ℕ) → All (λ b. b ≢ 36) q → All (λ b. b ≢ 36) (unescape q)
unescaped [] h = h
unescaped (b ∷ []) h = h
unescaped (b ∷ c ∷ bs) h =
    let more = All-tail (λ b. b ≢ 36) b (c ∷ bs) h in
    elim (cases_Bool (b == 92)) [
      | inl e ↦ rw e (All-cons (λ b. b ≢ 36) c (unescape bs) (All-head (λ b. b ≢ 36) c bs more) (unescaped bs (All-tail (λ b. b ≢ 36) c bs more)))
      | inr e ↦ rw e (All-cons (λ b. b ≢ 36) b (unescape (c ∷ bs)) (All-head (λ b. b ≢ 36) b (c ∷ bs) h) (unescaped (c ∷ bs) more))
    ]

module _ {X : Type 0} (P : X → Type 0) where
  front_of : (xs ys : List X) → AllByRecursion P (xs ++ ys) → AllByRecursion P xs
  front_of [] ys h = tt
  front_of (x ∷ xs) ys h = (h.0, front_of xs ys h.1)

  back_of : (xs ys : List X) → AllByRecursion P (xs ++ ys) → AllByRecursion P ys
  back_of [] ys h = h
  back_of (x ∷ xs) ys h = back_of xs ys h.1

module _ (condition : Bool) (names : List (List ℕ)) where
  operand_is : (a : Atom) → IsNumberedToken names (OperandToken a) → IsOperand names (leaf (number_of names) a)
  operand_is (WordAtom w) h = elim (cases_Bool (is_some (tristate_constant w))) [
    | inl e ↦ rw e (λ k d lt. no_dollar (get_or w k d) (h.1 k d lt))
    | inr e ↦
        let name : name_by names (symbol (number_of names w)) ≡ w = name_of names w (h.3 e) in
        rw e (record {
          some = subst (λ v. 0 < length v) (sym name) h.0;
          word = subst (λ v. All (λ b. IsTrue (is_word_byte b)) v) (sym name) h.1;
          no_keyword = subst (λ v. same_name v if_word ≡ false) (sym name) h.2;
          no_constant = subst (λ v. is_some (tristate_constant v) ≡ false) (sym name) e;
          numbered = ap (number_of names) name;
        })
  ]
  operand_is (QuotedAtom q) h = unescaped q h

  lone_is : (l : Leaf) → IsOperand names l →
      IsReadable condition names (if condition && elim l [ Text t ↦ same_name t (tri_text M) | Symbol s ↦ false ] then LoneM else Single l)
  lone_is l h = by (condition && elim l [ Text t ↦ same_name t (tri_text M) | Symbol s ↦ false ]) refl
    where
      by : (b : Bool) → (condition && elim l [ Text t ↦ same_name t (tri_text M) | Symbol s ↦ false ]) ≡ b → IsReadable condition names (if b then LoneM else Single l)
      by true e = (both condition _ e).0
      by false e = (h, e)

  abbrev Good : List Terminal → Type 0
  Good = AllByRecursion (IsNumberedToken names)

  are_two : (c : Connective) (f : Form) (ps : Chain c) → has_two (MoreForms f (forms (parts condition (number_of names) ps))) ≡ true
  are_two c f (only p) = refl
  are_two c f (joined p ps) = refl

  mutual
    not_is : (n : Negation) → Good (spell_not n) → IsReadable condition names (meaning_not condition (number_of names) n)
    not_is (bang n) h = not_is n h.1
    not_is (group d) h = chain_is Or d (front_of (IsNumberedToken names) (spell d) (Close ∷ []) h.1)
    not_is (lone a) h = lone_is (leaf (number_of names) a) (operand_is a h.0)
    not_is (compare o a b) h = (h.1.0, operand_is a h.0, operand_is b h.1.1.0)

    part_is : (c : Connective) (p : Part c) → Good (spell_part p) → IsReadable condition names (meaning_part condition (number_of names) p)
    part_is And (negation n) h = not_is n h
    part_is Or (conjunction ps) h = chain_is And ps h

    chain_is : (c : Connective) (ps : Chain c) → Good (spell ps) → IsReadable condition names (meaning condition (number_of names) ps)
    chain_is c (only p) h = part_is c p h
    chain_is And (joined p ps) h = (are_two And (meaning_part condition (number_of names) p) ps, (part_is And p (front_of (IsNumberedToken names) (spell_part p) _ h), parts_are And ps (back_of (IsNumberedToken names) (spell_part p) _ h).1))
    chain_is Or (joined p ps) h = (are_two Or (meaning_part condition (number_of names) p) ps, (part_is Or p (front_of (IsNumberedToken names) (spell_part p) _ h), parts_are Or ps (back_of (IsNumberedToken names) (spell_part p) _ h).1))

    parts_are : (c : Connective) (ps : Chain c) → Good (spell ps) → AreReadable condition names (forms (parts condition (number_of names) ps))
    parts_are c (only p) h = (part_is c p h, tt)
    parts_are c (joined p ps) h =
        (part_is c p (front_of (IsNumberedToken names) (spell_part p) _ h), parts_are c ps (back_of (IsNumberedToken names) (spell_part p) _ h).1)

pub meanings_are_readable : MeaningsAreReadable
meanings_are_readable condition names d h = chain_is condition names Or d (recursion_from_All _ _ h)
