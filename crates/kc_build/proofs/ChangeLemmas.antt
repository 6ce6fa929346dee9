-- One element of a list is written.
use Rattle.std.proofs.Common.{List, Some, [], ap, arith, get_or, length, map, refl, slice_set, suc, zero, ℕ, ◌<◌, ◌∙◌, ◌∷◌, ◌≡◌}
use Rattle.std.specs.{List.slice_get, Prelude.option_map}
use Rattle.kc_build.specs.Standing.{change}

-- the list as a function sees it
pub set_changed : {A B : Type 0} (v : A → B) (g : B → B) (xs : List A) (k : ℕ) (x y : A) → k < length xs → x ≡ get_or xs k x → v y ≡ g (v x) → map v (slice_set xs k y) ≡ change g k (map v xs)
set_changed v g [] k x y h at e = absurd (omega (arith, h))
set_changed v g (z ∷ xs) zero x y h at e = let same : x ≡ z = at in rw (e, same) refl
set_changed v g (z ∷ xs) (suc k) x y h at e = ap (λ l. v z ∷ l) (set_changed v g xs k x y (omega (arith, h)) at e)

pub set_same : {A B : Type 0} (v : A → B) (xs : List A) (k : ℕ) (x y : A) → x ≡ get_or xs k x → v y ≡ v x → map v (slice_set xs k y) ≡ map v xs
set_same v [] k x y at e = refl
set_same v (z ∷ xs) zero x y at e = let same : x ≡ z = at in ap (λ r. r ∷ map v xs) (e ∙ ap v same)
set_same v (z ∷ xs) (suc k) x y at e = ap (λ l. v z ∷ l) (set_same v xs k x y at e)

-- what is at a place behind it
pub set_here : {A : Type 0} (xs : List A) (k : ℕ) (y : A) → k < length xs → slice_get (slice_set xs k y) k ≡ Some y
set_here [] k y h = absurd (omega (arith, h))
set_here (z ∷ xs) zero y h = refl
set_here (z ∷ xs) (suc k) y h = set_here xs k y (omega (arith, h))

pub set_other : {A : Type 0} (xs : List A) (k j : ℕ) (y : A) → (j ≡ k → ⊥) → slice_get (slice_set xs k y) j ≡ slice_get xs j
set_other [] k j y ne = refl
set_other (z ∷ xs) zero zero y ne = absurd (ne refl)
set_other (z ∷ xs) zero (suc j) y ne = refl
set_other (z ∷ xs) (suc k) zero y ne = refl
set_other (z ∷ xs) (suc k) (suc j) y ne = set_other xs k j y (λ e. ne (ap suc e))

pub length-set : {A : Type 0} (xs : List A) (k : ℕ) (y : A) → length (slice_set xs k y) ≡ length xs
length-set [] k y = refl
length-set (z ∷ xs) zero y = refl
length-set (z ∷ xs) (suc k) y = ap suc (length-set xs k y)

-- the same of a change
pub change-here : {A : Type 0} (g : A → A) (xs : List A) (k : ℕ) → slice_get (change g k xs) k ≡ option_map g (slice_get xs k)
change-here g [] k = refl
change-here g (x ∷ xs) zero = refl
change-here g (x ∷ xs) (suc k) = change-here g xs k

pub change-other : {A : Type 0} (g : A → A) (xs : List A) (k j : ℕ) → (j ≡ k → ⊥) → slice_get (change g k xs) j ≡ slice_get xs j
change-other g [] k j ne = refl
change-other g (x ∷ xs) zero zero ne = absurd (ne refl)
change-other g (x ∷ xs) zero (suc j) ne = refl
change-other g (x ∷ xs) (suc k) zero ne = refl
change-other g (x ∷ xs) (suc k) (suc j) ne = change-other g xs k j (λ e. ne (ap suc e))

pub change-unseen : {A B : Type 0} (v : A → B) (g : A → A) → ((x : A) → v (g x) ≡ v x) → (xs : List A) (k : ℕ) → map v (change g k xs) ≡ map v xs
change-unseen v g h [] k = refl
change-unseen v g h (x ∷ xs) zero = ap (λ r. r ∷ map v xs) (h x)
change-unseen v g h (x ∷ xs) (suc k) = ap (λ l. v x ∷ l) (change-unseen v g h xs k)

-- an element that a function sees is there
pub mapped : {A B : Type 0} (f : A → B) (xs : List A) (k : ℕ) (y : B) → slice_get (map f xs) k ≡ Some y → (x : A) × (slice_get xs k ≡ Some x) × (f x ≡ y)
mapped f [] k y h = absurd cc
mapped f (x ∷ xs) zero y h = (x, refl, (let same : f x ≡ y = cc in same))
mapped f (x ∷ xs) (suc k) y h = mapped f xs k y h
