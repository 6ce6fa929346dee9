-- Lists of bounds: one place is set, all are alike, one more.
use Rattle.std.proofs.Common.{List, Some, [], ap, inl, inr, refl, replicate, slice_set, subst, suc, sym, zero, ℕ, ◌∙◌, ◌∷◌, ◌≡◌, ◌⊎◌}
use Rattle.std.specs.List.{slice_get}
use Rattle.kc_language.specs.declared.expressions.Tri.{Tri}
use Rattle.kc_possible.specs.{Bounds.IsWithin, Possible.AreWithin, declared.bounds.Bounds.Bounds}

get-set : {X : Type 0} (xs : List X) (k i : ℕ) (x y : X) → slice_get (slice_set xs k x) i ≡ Some y → ((i ≡ k) × (y ≡ x)) ⊎ (slice_get xs i ≡ Some y)
get-set [] k i x y e = absurd cc
get-set (z ∷ xs) zero zero x y e = inl (refl, cc)
get-set (z ∷ xs) zero (suc i) x y e = inr e
get-set (z ∷ xs) (suc k) zero x y e = inr e
get-set (z ∷ xs) (suc k) (suc i) x y e = by (get-set xs k i x y e)
  where
    by : ((i ≡ k) × (y ≡ x)) ⊎ (slice_get xs i ≡ Some y) → ((suc i ≡ suc k) × (y ≡ x)) ⊎ (slice_get xs i ≡ Some y)
    by (inl h) = inl (ap suc h.0, h.1)
    by (inr h) = inr h

pub within-set : (bounds : List Bounds) (k : ℕ) (new : Bounds) (worth : ℕ → Tri) → AreWithin bounds worth → IsWithin new (worth k) → AreWithin (slice_set bounds k new) worth
within-set bounds k new worth old here i b e = by (get-set bounds k i new b e)
  where
    by : ((i ≡ k) × (b ≡ new)) ⊎ (slice_get bounds i ≡ Some b) → IsWithin b (worth i)
    by (inl h) = subst (λ x. IsWithin x (worth i)) (sym h.1) (subst (λ j. IsWithin new (worth j)) (sym h.0) here)
    by (inr h) = old i b h

get-alike : {X : Type 0} (n : ℕ) (x : X) (i : ℕ) (y : X) → slice_get (replicate n x) i ≡ Some y → y ≡ x
get-alike zero x i y e = absurd cc
get-alike (suc n) x zero y e = cc
get-alike (suc n) x (suc i) y e = get-alike n x i y e

pub within-alike : (n : ℕ) (one : Bounds) (bounds : List Bounds) (worth : ℕ → Tri) → bounds ≡ replicate n one → ((t : Tri) → IsWithin one t) → AreWithin bounds worth
within-alike n one bounds worth e all i b g =
    subst (λ x. IsWithin x (worth i)) (sym (get-alike n one i b (sym (ap (λ bs. slice_get bs i) e) ∙ g))) (all (worth i))
