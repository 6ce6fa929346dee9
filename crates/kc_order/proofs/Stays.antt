-- What is unordered after as many iterations as there are symbols stays unordered.
use Rattle.std.proofs.{Common.{All, Bool, List, [], ap, arith, cond, get_or, inl, inr, refl, subst, suc, sym, true, zero, zero-add, ℕ, ◌+◌, ◌<◌, ◌∙◌, ◌∷◌, ◌≡◌, ◌≤◌, ◌⊎◌}, lemmas.{Bool.cases_Bool, List.{Elements.{All-cons, All-tail, Contains-get_or}, Folds.{Any-from_list_any, list_any_at}, FromFn.{get_or-range_with_len, length-range_with_len}, Sums.{count_by-le-length, get_or-le-sum_by, sum_by-cons, sum_by-le-sum_by}}}}
use Rattle.std.specs.List.{Contains, count_by, list_any, range_with_len}
use Rattle.kc_order.specs.Needs.{NeedsBelow}
use Rattle.kc_language.specs.Needs.{unordered_after}

-- tests that agree on each element find the same
list_any_agree : {X : Type 0} (p q : X → Bool) (xs : List X) → All (λ x. p x ≡ q x) xs → list_any p xs ≡ list_any q xs
list_any_agree p q [] h = refl
list_any_agree p q (x ∷ xs) h =
    let here : p x ≡ q x = h 0 x (omega arith) in
    let rest : list_any p xs ≡ list_any q xs = list_any_agree p q xs (All-tail (λ x. p x ≡ q x) x xs h) in
    cc

-- a narrower test finds no more
pub list_any_narrow : {X : Type 0} (p q : X → Bool) → ((x : X) → q x ≡ true → p x ≡ true) → (xs : List X) → list_any q xs ≡ true → list_any p xs ≡ true
list_any_narrow p q h xs e =
    let a = Any-from_list_any q xs e in
    list_any_at p xs a.0 a.1 a.2 (h (get_or xs a.0 a.1) (rw a.3 a.4))

-- what is unordered after one more iteration was unordered before
pub was_unordered : (needs : ℕ → List ℕ) (k s : ℕ) → unordered_after needs (suc k) s ≡ true → unordered_after needs k s ≡ true
was_unordered needs zero s e = refl
was_unordered needs (suc k) s e = list_any_narrow (unordered_after needs k) (unordered_after needs (suc k)) (was_unordered needs k) (needs s) e

-- no symbol is taken away in the iteration after k
abbrev IsFixpoint : ℕ → (ℕ → List ℕ) → ℕ → Type 0
IsFixpoint n needs k = (s : ℕ) → s < n → unordered_after needs k s ≡ unordered_after needs (suc k) s

fixpoint_next : (n : ℕ) (needs : ℕ → List ℕ) (k : ℕ) → NeedsBelow n needs → IsFixpoint n needs k → IsFixpoint n needs (suc k)
fixpoint_next n needs k below h s l =
    list_any_agree (unordered_after needs k) (unordered_after needs (suc k)) (needs s)
    (λ j d lt. h (get_or (needs s) j d) (below s (get_or (needs s) j d) l (Contains-get_or (needs s) j d lt)))

abbrev one_if : Bool → ℕ
one_if b = cond b 1 0

no_more : {X : Type 0} (p q : X → Bool) → ((x : X) → q x ≡ true → p x ≡ true) → (x : X) → cond (q x) 1 0 ≤ cond (p x) 1 0
no_more p q h x =
    elim (cases_Bool (q x)) [
      | inl kept ↦ let a = ap one_if (h x kept) in let b = ap one_if kept in omega arith
      | inr gone ↦ let b = ap one_if gone in omega arith
    ]

fewer_same : {X : Type 0} (p q : X → Bool) (x : X) (xs : List X) → p x ≡ q x → All (λ x. p x ≡ q x) xs ⊎ (count_by q xs + 1 ≤ count_by p xs) →
    All (λ x. p x ≡ q x) (x ∷ xs) ⊎ (count_by q (x ∷ xs) + 1 ≤ count_by p (x ∷ xs))
fewer_same p q x xs e (inl same) = inl (All-cons (λ x. p x ≡ q x) x xs e same)
fewer_same p q x xs e (inr less) =
    let p_is = sum_by-cons (λ x. cond (p x) 1 0) x xs in
    let q_is = sum_by-cons (λ x. cond (q x) 1 0) x xs in
    let a = ap one_if e in
    inr (omega arith)

-- a narrower test passes the same elements or fewer
fewer : {X : Type 0} (p q : X → Bool) → ((x : X) → q x ≡ true → p x ≡ true) → (xs : List X) → All (λ x. p x ≡ q x) xs ⊎ (count_by q xs + 1 ≤ count_by p xs)
fewer p q h [] = inl (λ k d l. absurd (omega arith))
fewer p q h (x ∷ xs) =
    let p_is = sum_by-cons (λ x. cond (p x) 1 0) x xs in
    let q_is = sum_by-cons (λ x. cond (q x) 1 0) x xs in
    let rest = sum_by-le-sum_by (λ x. cond (q x) 1 0) (λ x. cond (p x) 1 0) xs (no_more p q h) in
    elim (cases_Bool (q x)) [
      | inl kept ↦ fewer_same p q x xs (h x kept ∙ sym kept) (fewer p q h xs)
      | inr gone ↦ elim (cases_Bool (p x)) [
        | inl lost ↦ inr (let a = ap one_if lost in let b = ap one_if gone in omega arith)
        | inr neither ↦ fewer_same p q x xs (neither ∙ sym gone) (fewer p q h xs)
      ]
    ]

-- either nothing more is taken away, or each iteration took one away
fixpoint_or_fewer : (n : ℕ) (needs : ℕ → List ℕ) → NeedsBelow n needs → (k : ℕ) → IsFixpoint n needs k ⊎ (count_by (unordered_after needs k) (range_with_len 0 n) + k ≤ n)
fixpoint_or_fewer n needs below zero = inr (omega (arith, count_by-le-length (unordered_after needs zero) (range_with_len 0 n), length-range_with_len 0 n))
fixpoint_or_fewer n needs below (suc k) =
    elim (fixpoint_or_fewer n needs below k) [
      | inl done ↦ inl (fixpoint_next n needs k below done)
      | inr few ↦ elim (fewer (unordered_after needs k) (unordered_after needs (suc k)) (was_unordered needs k) (range_with_len 0 n)) [
        | inl same ↦ inl (fixpoint_next n needs k below
            (λ s l. subst (λ x. unordered_after needs k x ≡ unordered_after needs (suc k) x) (get_or-range_with_len 0 n s 0 l ∙ zero-add s) (same s 0 (omega (arith, length-range_with_len 0 n)))))
        | inr less ↦ inr (omega arith)
      ]
    ]

-- what is unordered needs something unordered
pub stays_unordered : (n : ℕ) (needs : ℕ → List ℕ) → NeedsBelow n needs → (s : ℕ) → s < n → unordered_after needs n s ≡ true → list_any (unordered_after needs n) (needs s) ≡ true
stays_unordered n needs below s l e =
    elim (fixpoint_or_fewer n needs below n) [
      | inl done ↦ sym (done s l) ∙ e
      | inr none ↦
          let at = get_or-le-sum_by (λ x. cond (unordered_after needs n x) 1 0) (range_with_len 0 n) s 0 (omega (arith, length-range_with_len 0 n)) in
          let is : get_or (range_with_len 0 n) s 0 ≡ s = get_or-range_with_len 0 n s 0 l ∙ zero-add s in
          let one = ap (λ (x : ℕ). one_if (unordered_after needs n x)) is ∙ ap one_if e in
          absurd (omega arith)
    ]

pub needs_unordered : (n : ℕ) (needs : ℕ → List ℕ) (s : ℕ) → NeedsBelow n needs → s < n → unordered_after needs n s ≡ true →
    (t : ℕ) × Contains (needs s) t × (unordered_after needs n t ≡ true)
needs_unordered n needs s below l e =
    let a = Any-from_list_any (unordered_after needs n) (needs s) (stays_unordered n needs below s l e) in
    (a.1, (a.0, a.2, a.3), a.4)

-- what is unordered needs something, also where it is no symbol
pub needs_some : (n : ℕ) (needs : ℕ → List ℕ) (s : ℕ) → 0 < n → unordered_after needs n s ≡ true → (t : ℕ) × Contains (needs s) t
needs_some zero needs s l e = absurd (omega arith)
needs_some (suc k) needs s l e =
    let a = Any-from_list_any (unordered_after needs k) (needs s) e in
    (a.1, (a.0, a.2, a.3))
