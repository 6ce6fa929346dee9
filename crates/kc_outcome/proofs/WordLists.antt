-- Lists of facts whose words read the same.
use Rattle.std.proofs.Common.{◌≡◌, refl, ap, sym, ◌∙◌, inl, inr, true, false, true≢false, length, arith, append_assoc}
use Rattle.std.proofs.lemmas.Bool.{cases_Bool}
use Rattle.std.proofs.lemmas.List.{map-append}
use Rattle.std.specs.List.{AllByRecursion, flat_map, list_any}
use Rattle.std.specs.Prelude.{Bool, List, [], map, ◌++◌, ◌∷◌, ◌≤◌}
use Rattle.kc_outcome.specs.Explanations.{through}

pub heads : {X : Type 0} {x y : X} {xs ys : List X} → x ∷ xs ≡ y ∷ ys → (x ≡ y) × (xs ≡ ys)
heads e = (cc, cc)

-- ---- Two lists of facts such that what reads the same after their words is the same, and so are they.
module _ {F W : Type 0} (word : F → W) where
  abbrev pub Aligned : List F → List F → Type 0
  Aligned xs ys = (r s : List W) → map word xs ++ r ≡ map word ys ++ s → (xs ≡ ys) × (r ≡ s)

  pub none : Aligned [] []
  none r s e = (refl, e)

  pub more : (x y : F) (xs ys : List F) → (word x ≡ word y → x ≡ y) → Aligned xs ys → Aligned (x ∷ xs) (y ∷ ys)
  more x y xs ys same rest r s e =
      let h = heads e in let here = same h.0 in let after = rest r s h.1 in (ap (λ z. z ∷ xs) here ∙ ap (λ zs. y ∷ zs) after.0, after.1)

  pub after : (xs ys us vs : List F) → Aligned xs ys → Aligned us vs → Aligned (xs ++ us) (ys ++ vs)
  after xs ys us vs first second r s e =
      let split : (zs ws : List F) (t : List W) → map word (zs ++ ws) ++ t ≡ map word zs ++ (map word ws ++ t) =
      λ zs ws t. ap (λ l. l ++ t) (map-append word zs ws) ∙ append_assoc (map word zs) (map word ws) t in
      let here = first (map word us ++ r) (map word vs ++ s) (sym (split xs us r) ∙ e ∙ split ys vs s) in
      let there = second r s here.1 in
      (ap (λ l. l ++ us) here.0 ∙ ap (λ l. ys ++ l) there.0, there.1)

  module _ {X : Type 0} where
    pub each : (f g : X → F) → ((x : X) → word (f x) ≡ word (g x) → f x ≡ g x) → (zs : List X) → Aligned (map f zs) (map g zs)
    each f g same [] = none
    each f g same (z ∷ zs) = more (f z) (g z) (map f zs) (map g zs) (same z) (each f g same zs)

    pub flat : (f g : X → List F) → ((x : X) → Aligned (f x) (g x)) → (zs : List X) → Aligned (flat_map f zs) (flat_map g zs)
    flat f g same [] = none
    flat f g same (z ∷ zs) = after (f z) (g z) (flat_map f zs) (flat_map g zs) (same z) (flat f g same zs)

    -- Up to the first element that passes a test: it is the same one, and so is whether there is one.
    pub until : (f g : X → F) (p q : X → Bool) → ((x : X) → word (f x) ≡ word (g x) → (f x ≡ g x) × (p x ≡ q x)) → (zs : List X) (r s : List W) →
        map word (map f (through p zs)) ++ r ≡ map word (map g (through q zs)) ++ s →
        (map f (through p zs) ≡ map g (through q zs)) × (list_any p zs ≡ list_any q zs) × (r ≡ s)
    until f g p q same [] r s e = (refl, refl, e)
    until f g p q same (z ∷ zs) r s e = elim (cases_Bool (p z)) [
      | inl t ↦ elim (cases_Bool (q z)) [
        | inl u ↦ let h : word (f z) ∷ r ≡ word (g z) ∷ s = rw (t, u) at e in
            rw (t, u) (ap (λ x. x ∷ []) (same z (heads h).0).0, refl, (heads h).1)
        | inr u ↦ let h : word (f z) ∷ r ≡ word (g z) ∷ (map word (map g (through q zs)) ++ s) = rw (t, u) at e in
            absurd (true≢false (sym t ∙ (same z (heads h).0).1 ∙ u))
      ]
      | inr t ↦ elim (cases_Bool (q z)) [
        | inl u ↦ let h : word (f z) ∷ (map word (map f (through p zs)) ++ r) ≡ word (g z) ∷ s = rw (t, u) at e in
            absurd (true≢false (sym u ∙ sym (same z (heads h).0).1 ∙ t))
        | inr u ↦ let h : word (f z) ∷ (map word (map f (through p zs)) ++ r) ≡ word (g z) ∷ (map word (map g (through q zs)) ++ s) = rw (t, u) at e in
            let rest = until f g p q same zs r s (heads h).1 in
            rw (t, u) (ap (λ x. x ∷ map f (through p zs)) (same z (heads h).0).0 ∙ ap (λ l. g z ∷ l) rest.0, rest.1, rest.2)
      ]
    ]

-- ---- Lists of words, told apart by a test
module _ {W : Type 0} (test : W → Bool) where
  abbrev pub Pass : List W → Type 0
  Pass = AllByRecursion (λ w. test w ≡ true)

  abbrev pub Fail : List W → Type 0
  Fail = AllByRecursion (λ w. test w ≡ false)

  differs : (x y : W) → test x ≡ true → test y ≡ false → x ≡ y → ⊥
  differs x y t u e = true≢false (sym t ∙ ap test e ∙ u)

  -- The words before the first one that passes.
  pub before_first : (xs ys : List W) (x y : W) (r s : List W) → Fail xs → Fail ys → test x ≡ true → test y ≡ true → xs ++ x ∷ r ≡ ys ++ y ∷ s →
      (xs ≡ ys) × (x ∷ r ≡ y ∷ s)
  before_first [] [] x y r s f g t u e = (refl, e)
  before_first [] (z ∷ ys) x y r s f g t u e = absurd (differs x z t g.0 (heads e).0)
  before_first (z ∷ xs) [] x y r s f g t u e = absurd (differs y z u f.0 (sym (heads e).0))
  before_first (v ∷ xs) (w ∷ ys) x y r s f g t u e =
      let rest = before_first xs ys x y r s f.1 g.1 t u (heads e).1 in (ap (λ z. z ∷ xs) (heads e).0 ∙ ap (λ zs. w ∷ zs) rest.0, rest.1)

  -- The words that pass, before others that do not, where a list without others has at least as many.
  pub first_ones : (xs ys ns ms r s : List W) → Pass xs → Pass ys → Fail ns → Fail ms → (ns ≡ [] → length ys ≤ length xs) →
      (ms ≡ [] → length xs ≤ length ys) → xs ++ (ns ++ r) ≡ ys ++ (ms ++ s) → (xs ≡ ys) × (ns ++ r ≡ ms ++ s)
  first_ones [] [] ns ms r s p q f g some any e = (refl, e)
  first_ones [] (y ∷ ys) [] ms r s p q f g some any e = absurd (omega (arith, some refl))
  first_ones [] (y ∷ ys) (n ∷ ns) ms r s p q f g some any e = absurd (differs y n q.0 f.0 (sym (heads e).0))
  first_ones (x ∷ xs) [] ns [] r s p q f g some any e = absurd (omega (arith, any refl))
  first_ones (x ∷ xs) [] ns (m ∷ ms) r s p q f g some any e = absurd (differs x m p.0 g.0 (heads e).0)
  first_ones (x ∷ xs) (y ∷ ys) ns ms r s p q f g some any e =
      let rest = first_ones xs ys ns ms r s p.1 q.1 f g (λ n. omega (arith, some n)) (λ m. omega (arith, any m)) (heads e).1 in
      (ap (λ z. z ∷ xs) (heads e).0 ∙ ap (λ zs. y ∷ zs) rest.0, rest.1)

-- What the words of each element tell is the same in lists whose words are the same.
pub told : {X W T : Type 0} (f g : X → W) (u v : X → T) → ((x y : X) → f x ≡ g y → u x ≡ v y) → (xs ys : List X) → map f xs ≡ map g ys → map u xs ≡ map v ys
told f g u v same [] [] e = refl
told f g u v same [] (y ∷ ys) e = absurd cc
told f g u v same (x ∷ xs) [] e = absurd cc
told f g u v same (x ∷ xs) (y ∷ ys) e = ap (λ t. t ∷ map u xs) (same x y (heads e).0) ∙ ap (λ ts. v y ∷ ts) (told f g u v same xs ys (heads e).1)
