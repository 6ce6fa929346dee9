-- No two loops are named of the same needs.
use Rattle.std.proofs.{Common.{List, ap, arith, drop, eqb, get_or, inl, inr, length, subst, suc, sym, take, zero, ℕ, ◌++◌, ◌+◌, ◌<◌, ◌∙◌, ◌≡◌, ◌≢◌}, Math.Seq.drop-append_seam, lemmas.{Bool.{cases_lt, eqb-false}, Grind.same_number_lists, List.{get_or-append-add, get_or-take, get_or_append_left, length-append, length-take-le}, Map.Keys.apart_from_distinct, Option.same_Some}}
use Rattle.std.specs.List.{IsDistinct}
use Rattle.kc_order.specs.PartsOfNeeds.{IsNext}
use Rattle.kc_language.specs.Needs.{IsNamedLoop, IsUnorderedWalk}

-- two walks go the same way as far as both go
same_steps : (sequence : List ℕ) (n : ℕ) (needs : ℕ → List ℕ) (walk other : List ℕ) →
    IsUnorderedWalk sequence n needs walk → IsUnorderedWalk sequence n needs other → (k : ℕ) → k < length walk → k < length other → get_or walk k 0 ≡ get_or other k 0
same_steps sequence n needs walk other a b zero l m = same_Some (get_or walk 0 0) (get_or other 0 0) (sym a.begins ∙ b.begins)
same_steps sequence n needs walk other a b (suc k) l m =
    let e : k + 1 ≡ suc k = omega arith in
    let before = same_steps sequence n needs walk other a b k (omega arith) (omega arith) in
    let next = subst (λ s. IsNext sequence n needs s (get_or walk (k + 1) 0)) before (a.goes_on k (omega arith)) in
    let is = same_Some (get_or walk (k + 1) 0) (get_or other (k + 1) 0) (sym next ∙ b.goes_on k (omega arith)) in
    subst (λ j. get_or walk j 0 ≡ get_or other j 0) e is

-- the first of what is put behind a list stands where the list ends
seam : (xs ys : List ℕ) → get_or (xs ++ ys) (length xs) 0 ≡ get_or ys 0 0
seam xs ys =
    let e : length xs ≡ length xs + 0 = omega arith in
    ap (λ k. get_or (xs ++ ys) k 0) e ∙ get_or-append-add xs ys 0 0

-- the walk ends at the loop's first symbol
ends_at : (lead loop : List ℕ) → get_or (lead ++ loop ++ take 1 loop) (length (lead ++ loop)) 0 ≡ get_or (lead ++ loop) (length lead) 0
ends_at lead loop = seam (lead ++ loop) (take 1 loop) ∙ get_or-take 1 loop 0 0 (omega arith) ∙ sym (seam lead loop)

walk_len : (lead loop : List ℕ) → 0 < length loop → length (lead ++ loop ++ take 1 loop) ≡ length (lead ++ loop) + 1
walk_len lead loop h = omega (arith, length-append (lead ++ loop) (take 1 loop), length-take-le 1 loop (omega arith))

-- two places of a list with no symbol twice hold two symbols
differ : (xs : List ℕ) → IsDistinct eqb xs → (i j : ℕ) → i < j → j < length xs → get_or xs i 0 ≢ get_or xs j 0
differ xs apart i j l b = eqb-false (get_or xs i 0) (get_or xs j 0) (apart_from_distinct eqb xs i j 0 apart l b)

same_place : (xs : List ℕ) → IsDistinct eqb xs → (i j : ℕ) → i < length xs → j < length xs → get_or xs i 0 ≡ get_or xs j 0 → i ≡ j
same_place xs apart i j l m e =
    elim (cases_lt i j) [
      | inl less ↦ absurd (differ xs apart i j less m e)
      | inr more ↦ elim (cases_lt j i) [
        | inl less ↦ absurd (differ xs apart j i less l (sym e))
        | inr same ↦ omega arith
      ]
    ]

module _ (sequence : List ℕ) (n : ℕ) (needs : ℕ → List ℕ) (loop other : List ℕ)
    (a : IsNamedLoop sequence n needs loop) (b : IsNamedLoop sequence n needs other) where
  -- the walk to the loop's end, and back to its first symbol
  abbrev one : List ℕ
  one = a.lead ++ loop

  abbrev two : List ℕ
  two = b.lead ++ other

  alike : (k : ℕ) → k < length one + 1 → k < length two + 1 → get_or (one ++ take 1 loop) k 0 ≡ get_or (two ++ take 1 other) k 0
  alike k l m =
      same_steps sequence n needs (one ++ take 1 loop) (two ++ take 1 other) a.walk b.walk k
      (omega (arith, walk_len a.lead loop a.some)) (omega (arith, walk_len b.lead other b.some))

  alike_in : (k : ℕ) → k < length one → k < length two → get_or one k 0 ≡ get_or two k 0
  alike_in k l m = sym (get_or_append_left one (take 1 loop) 0 k l) ∙ alike k (omega arith) (omega arith) ∙ get_or_append_left two (take 1 other) 0 k m

  -- one walk does not end before the other
  pub not_shorter : length one < length two → ⊥
  not_shorter less =
      let lead : length a.lead < length one = omega (arith, length-append a.lead loop, a.some) in
      differ two b.apart (length a.lead) (length one) lead less
      (sym (alike_in (length a.lead) lead (omega arith)) ∙ sym (ends_at a.lead loop) ∙ alike (length one) (omega arith) (omega arith) ∙ get_or_append_left two (take 1 other) 0 (length one) less)

  pub same_loop : length one ≡ length two → loop ≡ other
  same_loop len =
      let ways : one ≡ two = same_number_lists one two len (λ k l. alike_in k l (omega arith)) in
      let first : get_or one (length a.lead) 0 ≡ get_or two (length b.lead) 0 =
      sym (ends_at a.lead loop) ∙ alike (length one) (omega arith) (omega arith) ∙ ap (λ k. get_or (two ++ take 1 other) k 0) len ∙ ends_at b.lead other in
      let leads : length a.lead ≡ length b.lead =
      same_place two b.apart (length a.lead) (length b.lead) (omega (arith, length-append a.lead loop, a.some)) (omega (arith, length-append b.lead other, b.some))
      (ap (λ xs. get_or xs (length a.lead) 0) (sym ways) ∙ first) in
      sym (drop-append_seam a.lead loop) ∙ ap (λ k. drop k one) leads ∙ ap (drop (length b.lead)) ways ∙ drop-append_seam b.lead other

pub one_loop : (sequence : List ℕ) (n : ℕ) (needs : ℕ → List ℕ) (loop other : List ℕ) →
    IsNamedLoop sequence n needs loop → IsNamedLoop sequence n needs other → loop ≡ other
one_loop sequence n needs loop other a b =
    elim (cases_lt (length (a.lead ++ loop)) (length (b.lead ++ other))) [
      | inl less ↦ absurd (not_shorter sequence n needs loop other a b less)
      | inr more ↦ elim (cases_lt (length (b.lead ++ other)) (length (a.lead ++ loop))) [
        | inl less ↦ absurd (not_shorter sequence n needs other loop b a less)
        | inr same ↦ same_loop sequence n needs loop other a b (omega arith)
      ]
    ]
