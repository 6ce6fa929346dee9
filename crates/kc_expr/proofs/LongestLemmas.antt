-- The longest front that begins some expression, and so the outcome of parsing, is the only one.
use Rattle.std.proofs.Common.{Bool, List, [], ap, append-nil, append_assoc, refl, subst, sym, ℕ, ◌++◌, ◌∙◌, ◌∷◌, ◌≡◌}
use Rattle.kc_language.specs.Expressions.{Begins, BeginsWithin, Disjunction, Form, IsNoExpression, IsTooDeep, LongestFront, Terminal, all_mentioned, names_in, number_of}
use Rattle.kc_expr.specs.{Grammar.HasOneLongestFront, Names.Extends, Parsing.{IsDetermined, IsParsed}, PartsOfExpressions.{NoLonger, meaning_or, spell_or}}
use Rattle.kc_expr.proofs.OneTree.{unambiguous}

-- a front of what begins an expression begins it too
begins_front : (whole front rest : List Terminal) → whole ≡ front ++ rest → Begins whole → Begins front
begins_front whole front rest e b = (b.0, rest ++ b.1, b.2 ∙ ap (λ l. l ++ b.1) e ∙ append_assoc front rest b.1)

pub within_front : (k : ℕ) (whole front rest : List Terminal) → whole ≡ front ++ rest → BeginsWithin k whole → BeginsWithin k front
within_front k whole front rest e b = (b.0, rest ++ b.1, b.2, b.3 ∙ ap (λ l. l ++ b.1) e ∙ append_assoc front rest b.1)

past_end : (p b : List Terminal) (t u : Terminal) → t ≡ u → p ++ (t ∷ b) ≡ ((p ++ []) ++ u ∷ []) ++ b
past_end p b t u e = ap (λ x. p ++ (x ∷ b)) e ∙ sym (append_assoc p (u ∷ []) b) ∙ ap (λ l. (l ++ u ∷ []) ++ b) (sym (append-nil p))

one_on : (p b : List Terminal) (t u : Terminal) → t ≡ u → p ++ (u ∷ b) ≡ (p ++ t ∷ []) ++ b
one_on p b t u e = ap (λ x. p ++ (x ∷ b)) (sym e) ∙ sym (append_assoc p (t ∷ []) b)

both_on : (t u : Terminal) (a b : List Terminal) → t ≡ u → a ≡ b → t ∷ a ≡ u ∷ b
both_on t u a b e f = ap (λ x. x ∷ a) e ∙ ap (λ l. u ∷ l) f

-- Where two texts are the same, what begins an expression is a front of the longest that does, here past a common beginning.
front_of_longest : (p a b r s : List Terminal) → a ++ r ≡ b ++ s → Begins (p ++ b) → NoLonger (p ++ a) r → (c : List Terminal) × (a ≡ b ++ c) × (s ≡ c ++ r)
front_of_longest p a [] r s e y n = (a, refl, sym e)
front_of_longest p [] (t ∷ b) [] s e y n = absurd (cc)
front_of_longest p [] (t ∷ b) (u ∷ r) s e y n =
    let head : t ≡ u = cc in
    absurd (n (begins_front (p ++ (t ∷ b)) ((p ++ []) ++ u ∷ []) b (past_end p b t u head) y))
front_of_longest p (t ∷ a) (u ∷ b) r s e y n =
    let head : t ≡ u = cc in
    let tail : a ++ r ≡ b ++ s = cc in
    let y' = subst Begins (one_on p b t u head) y in
    let n' = subst (λ l. NoLonger l r) (sym (append_assoc p (t ∷ []) a)) n in
    let c = front_of_longest (p ++ t ∷ []) a b r s tail y' n' in
    (c.0, both_on t u a (b ++ c.0) head c.1, c.2)

-- what begins an expression is a front of the longest that does
pub in_longest : (ts front rest begun after : List Terminal) → LongestFront ts front rest → ts ≡ begun ++ after → Begins begun → (c : List Terminal) × (front ≡ begun ++ c) × (after ≡ c ++ rest)
in_longest ts front rest begun after l e y = front_of_longest [] front begun rest after (sym l.whole ∙ e) y l.longest

nothing_between : (a b c d : List Terminal) → a ≡ b ++ c → b ≡ a ++ d → c ≡ []
nothing_between [] [] c d e f = sym e
nothing_between [] (t ∷ b) c d e f = absurd (cc)
nothing_between (t ∷ a) [] c d e f = absurd (cc)
nothing_between (t ∷ a) (u ∷ b) c d e f =
    let e' : a ≡ b ++ c = cc in
    let f' : b ≡ a ++ d = cc in
    nothing_between a b c d e' f'

-- the longest front that begins some expression is the only one
pub one_longest : HasOneLongestFront
one_longest ts front rest front' rest' l m =
    let x = in_longest ts front rest front' rest' l m.whole m.begins in
    let y = in_longest ts front' rest' front rest m l.whole l.begins in
    let z = nothing_between front front' x.0 y.0 x.1 y.1 in
    (x.1 ∙ ap (λ c. front' ++ c) z ∙ append-nil front', sym (x.2 ∙ ap (λ c. c ++ rest) z))

-- where the longest front is an expression, there is one
pub is_expression : (ts rest : List Terminal) (d : Disjunction) → LongestFront ts (spell_or d) rest → IsNoExpression ts → ⊥
is_expression ts rest d l r = r.none d (one_longest ts (spell_or d) rest r.front r.rest l r.longest).0

-- where the longest front begins one of at most 64 levels, none is opened too many
pub not_too_deep : (ts front rest : List Terminal) → LongestFront ts front rest → BeginsWithin 64 front → IsTooDeep ts → ⊥
not_too_deep ts front rest l w r =
    let x = in_longest ts front rest r.front r.rest l r.whole r.begins in
    r.deep (within_front 64 front r.front x.0 x.1 w)

spelled_longest : (condition : Bool) (ts rest : List Terminal) (old names : List (List ℕ)) (f : Form) (p : IsParsed condition ts rest old names f) → LongestFront ts (spell_or p.tree) rest
spelled_longest condition ts rest old names f p = subst (λ l. LongestFront ts l rest) (sym p.derives) p.longest

same_tree : (condition : Bool) (ts rest rest' : List Terminal) (old names names' : List (List ℕ)) (f f' : Form)
    (p : IsParsed condition ts rest old names f) (q : IsParsed condition ts rest' old names' f') → p.tree ≡ q.tree
same_tree condition ts rest rest' old names names' f f' p q =
    unambiguous p.tree q.tree (p.derives ∙ (one_longest ts p.front rest q.front rest' p.longest q.longest).0 ∙ sym q.derives)

at_once : (names : List (List ℕ)) → Extends names names
at_once names = ([], sym (append-nil names))

pub determined : (ts : List Terminal) → IsDetermined ts
determined ts = record {
  one_answer = λ condition rest rest' old names names' f f' p q.
      let t = same_tree condition ts rest rest' old names names' f f' p q in
      let n = p.mentions ∙ ap (λ d. all_mentioned old (names_in d)) t ∙ sym q.mentions in (
        (one_longest ts p.front rest q.front rest' p.longest q.longest).1,
        n,
        p.form names (at_once names) ∙ ap (meaning_or condition (number_of names)) t
            ∙ sym (q.form names (subst (λ ns. Extends ns names) n (at_once names))),
      );
  not_refused = λ condition rest old names f p. (
    is_expression ts rest p.tree (spelled_longest condition ts rest old names f p),
    not_too_deep ts (spell_or p.tree) rest (spelled_longest condition ts rest old names f p) (p.tree, [], p.within, sym (append-nil (spell_or p.tree))),
  );
  one_refusal = λ r d. not_too_deep ts r.front r.rest r.longest r.within d;
}
