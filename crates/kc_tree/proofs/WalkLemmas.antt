-- Walks over the numbers that pass a test: forward from the first of them, and backward from the last.
use Rattle.std.proofs.Common.{◌≡◌, ℕ, zero, suc, ◌-◌, ◌<◌, ◌≤◌, Bool, true, false, cond, List, [], ◌∷◌, filter, Option, Some, None, refl, ap, sym, ◌∙◌, subst, arith, add-one}
use Rattle.std.specs.List.{range_with_len}
use Rattle.kc_language.specs.Expansion.{last_of}
use Rattle.kc_entries.specs.PartsOfSymbols.{first_of}
use Rattle.kc_entries.proofs.EnclosingLemmas.{last-snoc}
use Rattle.kc_tree.specs.Stored.{stored, unstored}
use Rattle.kc_tree.proofs.ListLemmas.{up_to, up_to-skip, up_to-step}

module _ (p : ℕ → Bool) where
  -- Forward: those from a number on, below a bound.
  abbrev pub rest : ℕ → ℕ → List ℕ
  rest count from = filter p (range_with_len from (count - from))

  pub rest-past : (count from : ℕ) → count ≤ from → rest count from ≡ []
  rest-past count from h = let none : count - from ≡ 0 = omega (arith, h) in ap (λ n. filter p (range_with_len from n)) none

  opened : (count from : ℕ) → from < count → rest count from ≡ cond (p from) (from ∷ rest count (suc from)) (rest count (suc from))
  opened count from h =
      let more : count - from ≡ suc (count - suc from) = omega (arith, h) in
      ap (λ n. filter p (range_with_len from n)) more
      ∙ ap (λ k. cond (p from) (from ∷ filter p (range_with_len k (count - suc from))) (filter p (range_with_len k (count - suc from)))) (add-one from)

  pub rest-step : (count from : ℕ) → from < count → p from ≡ true → rest count from ≡ from ∷ rest count (suc from)
  rest-step count from h e = opened count from h ∙ ap (λ b. cond b (from ∷ rest count (suc from)) (rest count (suc from))) e

  pub rest-skip : (count from : ℕ) → from < count → p from ≡ false → rest count from ≡ rest count (suc from)
  rest-skip count from h e = opened count from h ∙ ap (λ b. cond b (from ∷ rest count (suc from)) (rest count (suc from))) e

  -- the first of them, if there is one
  pub record IsFirst (count from k : ℕ) : Type 0 where
    pub behind : from ≤ k
    pub below : k < count
    pub passes : p k ≡ true
    pub same : rest count from ≡ rest count k

  abbrev pub Found : ℕ → ℕ → Option ℕ → Type 0
  Found count from None = rest count from ≡ []
  Found count from (Some k) = IsFirst count from k

  found-later : (count from : ℕ) (o : Option ℕ) → from < count → p from ≡ false → Found count (suc from) o → Found count from o
  found-later count from None h e f = rest-skip count from h e ∙ f
  found-later count from (Some k) h e f =
      let b : suc from ≤ k = f.behind in
      record { behind = omega (arith, b); below = f.below; passes = f.passes; same = rest-skip count from h e ∙ f.same }

  found-by : (count from : ℕ) (b : Bool) → p from ≡ b → from < count → Found count (suc from) (first_of (rest count (suc from))) → Found count from (first_of (rest count from))
  found-by count from true e h f =
      subst (Found count from) (sym (ap first_of (rest-step count from h e))) (record { behind = omega arith; below = h; passes = e; same = refl })
  found-by count from false e h f =
      subst (Found count from) (sym (ap first_of (rest-skip count from h e))) (found-later count from (first_of (rest count (suc from))) h e f)

  find : (n count from : ℕ) → count - from ≡ n → Found count from (first_of (rest count from))
  find zero count from h =
      let none = rest-past count from (omega (arith, h)) in
      subst (Found count from) (sym (ap first_of none)) none
  find (suc n) count from h = found-by count from (p from) refl (omega (arith, h)) (find n count (suc from) (omega (arith, h)))

  pub first-found : (count from : ℕ) → Found count from (first_of (rest count from))
  first-found count from = find (count - from) count from refl

  -- those from a number on as it is stored: from none on there are none
  abbrev pub rest_at : ℕ → ℕ → List ℕ
  rest_at count at = elim (unstored at) [ None ↦ [] | Some k ↦ rest count k ]

  at-by : (count from : ℕ) (o : Option ℕ) → Found count from o → rest_at count (stored o) ≡ rest count from
  at-by count from None f = sym f
  at-by count from (Some k) f = sym f.same

  pub rest-at-first : (count from : ℕ) → rest_at count (stored (first_of (rest count from))) ≡ rest count from
  rest-at-first count from = at-by count from (first_of (rest count from)) (first-found count from)

  -- the number that is stored, if there is one, passes
  abbrev IsThere : ℕ → ℕ → ℕ → Type 0
  IsThere count from at = (k : ℕ) → unstored at ≡ Some k → IsFirst count from k

  there-by : (count from : ℕ) (o : Option ℕ) → Found count from o → IsThere count from (stored o)
  there-by count from None f k e = absurd cc
  there-by count from (Some j) f k e = let same : j ≡ k = cc in subst (IsFirst count from) same f

  pub first-there : (count from k : ℕ) → unstored (stored (first_of (rest count from))) ≡ Some k → IsFirst count from k
  first-there count from = there-by count from (first_of (rest count from)) (first-found count from)

  -- Backward: those below a number.
  -- the last of them, if there is one
  pub record IsLast (n k : ℕ) : Type 0 where
    pub below : k < n
    pub passes : p k ≡ true
    pub same : up_to p n ≡ up_to p (suc k)

  abbrev pub FoundLast : ℕ → Option ℕ → Type 0
  FoundLast n None = up_to p n ≡ []
  FoundLast n (Some k) = IsLast n k

  last-later : (n : ℕ) (o : Option ℕ) → p n ≡ false → FoundLast n o → FoundLast (suc n) o
  last-later n None e f = up_to-skip p n e ∙ f
  last-later n (Some k) e f = let b : k < n = f.below in record { below = omega (arith, b); passes = f.passes; same = up_to-skip p n e ∙ f.same }

  last-by : (n : ℕ) (b : Bool) → p n ≡ b → FoundLast n (last_of (up_to p n)) → FoundLast (suc n) (last_of (up_to p (suc n)))
  last-by n true e f =
      subst (FoundLast (suc n)) (sym (ap last_of (up_to-step p n e) ∙ last-snoc (up_to p n) n)) (record { below = omega arith; passes = e; same = refl })
  last-by n false e f = subst (FoundLast (suc n)) (sym (ap last_of (up_to-skip p n e))) (last-later n (last_of (up_to p n)) e f)

  pub last-found : (n : ℕ) → FoundLast n (last_of (up_to p n))
  last-found zero = refl
  last-found (suc n) = last-by n (p n) refl (last-found n)

  stored-by : (n : ℕ) (o : Option ℕ) → FoundLast n o → up_to p (stored o) ≡ up_to p n
  stored-by n None f = sym f
  stored-by n (Some k) f = sym f.same

  pub up_to-last : (n : ℕ) → up_to p (stored (last_of (up_to p n))) ≡ up_to p n
  up_to-last n = stored-by n (last_of (up_to p n)) (last-found n)

  last-there-by : (n : ℕ) (o : Option ℕ) (k : ℕ) → FoundLast n o → unstored (stored o) ≡ Some k → IsLast n k
  last-there-by n None k f e = absurd cc
  last-there-by n (Some j) k f e = let same : j ≡ k = cc in subst (IsLast n) same f

  pub last-there : (n k : ℕ) → unstored (stored (last_of (up_to p n))) ≡ Some k → IsLast n k
  last-there n k e = last-there-by n (last_of (up_to p n)) k (last-found n) e
