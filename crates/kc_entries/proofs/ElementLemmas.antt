-- What holds of each element of a list that is made of another one.
use Rattle.std.proofs.{Common.{Bool, List, None, Option, Some, [], add-one, ap, arith, false, filter, if◌then◌else◌, inl, inr, length, map, refl, subst, suc, sym, true, zero, ℕ, ◌++◌, ◌<◌, ◌||◌, ◌∙◌, ◌∷◌, ◌≡◌}, lemmas.{Bool.eqb-true, List.{Elements.{All-append, All-cons, All-nil}, Sums.length-filter, append-nil}, Option.{get_or_from_slice_get, slice_get_within}}}
use Rattle.std.specs.{List.{cons_option, count_by, filter_map, flat_map, list_any, slice_get}, Prelude.{All, Contains, ◌⊎◌}}
use Rattle.kc_language.specs.{Expansion.numbers, Expressions.same_symbol, declared.expressions.SymId.SymId}
use Rattle.kc_entries.proofs.PlaceLemmas.{filter-next}

module _ {Y : Type 0} (P : Y → Type 0) where
  pub All-at : (ys : List Y) (i : ℕ) (y : Y) → All P ys → slice_get ys i ≡ Some y → P y
  All-at ys i y a e = subst P (get_or_from_slice_get ys i y y e) (a i y (slice_get_within ys i y e))

  pub All-cons_option : (o : Option Y) (ys : List Y) → ((y : Y) → o ≡ Some y → P y) → All P ys → All P (cons_option o ys)
  All-cons_option None ys h a = a
  All-cons_option (Some y) ys h a = All-cons P y ys (h y refl) a

  pub All-if : (b : Bool) (ys : List Y) → All P ys → All P (if b then ys else [])
  All-if true ys a = a
  All-if false ys a = All-nil P

  module _ {X : Type 0} where
    pub All-filter_map : (f : X → Option Y) → ((x : X) (y : Y) → f x ≡ Some y → P y) → (xs : List X) → All P (filter_map f xs)
    All-filter_map f h [] = All-nil P
    All-filter_map f h (x ∷ xs) = All-cons_option (f x) (filter_map f xs) (h x) (All-filter_map f h xs)

    pub All-flat_map : (f : X → List Y) → ((x : X) → All P (f x)) → (xs : List X) → All P (flat_map f xs)
    All-flat_map f h [] = All-nil P
    All-flat_map f h (x ∷ xs) = All-append P (f x) (flat_map f xs) (h x) (All-flat_map f h xs)

    pub All-map_each : (f : X → Y) → ((x : X) → P (f x)) → (xs : List X) → All P (map f xs)
    All-map_each f h [] = All-nil P
    All-map_each f h (x ∷ xs) = All-cons P (f x) (map f xs) (h x) (All-map_each f h xs)

    -- of those that are kept
    kept : (f : X → Option Y) (q : X → Bool) (b : Bool) (x : X) (xs : List X) → q x ≡ b → ((y : Y) → q x ≡ true → f x ≡ Some y → P y) →
        All P (filter_map f (filter q xs)) → All P (filter_map f (if b then x ∷ filter q xs else filter q xs))
    kept f q true x xs e h a = All-cons_option (f x) (filter_map f (filter q xs)) (λ y s. h y e s) a
    kept f q false x xs e h a = a

    pub All-kept : (f : X → Option Y) (q : X → Bool) → ((x : X) (y : Y) → q x ≡ true → f x ≡ Some y → P y) → (xs : List X) → All P (filter_map f (filter q xs))
    All-kept f q h [] = All-nil P
    All-kept f q h (x ∷ xs) = kept f q (q x) x xs refl (h x) (All-kept f q h xs)

-- what an element of filtered results came from
module _ {X Y : Type 0} (f : X → Option Y) (y : Y) where
  abbrev From : Type 0
  From = (x : X) × (f x ≡ Some y)

  from_first : (o : Option Y) (x : X) (ys : List Y) (k : ℕ) → f x ≡ o → ((k : ℕ) → slice_get ys k ≡ Some y → From) → slice_get (cons_option o ys) k ≡ Some y → From
  from_first None x ys k e h s = h k s
  from_first (Some z) x ys zero e h s = (x, e ∙ s)
  from_first (Some z) x ys (suc k) e h s = h k s

  pub filter_map-from : (xs : List X) (k : ℕ) → slice_get (filter_map f xs) k ≡ Some y → From
  filter_map-from [] k s = absurd cc
  filter_map-from (x ∷ xs) k s = from_first (f x) x (filter_map f xs) k refl (filter_map-from xs) s

-- the last of a longer list, or one before
pub get_snoc : {X : Type 0} (xs : List X) (x y : X) (k : ℕ) → slice_get (xs ++ x ∷ []) k ≡ Some y → (slice_get xs k ≡ Some y) ⊎ ((k ≡ length xs) × (x ≡ y))
get_snoc [] x y zero h = inr (refl, (let e : x ≡ y = cc in e))
get_snoc [] x y (suc k) h = absurd cc
get_snoc (z ∷ xs) x y zero h = inl h
get_snoc {X} (z ∷ xs) x y (suc k) h = next (get_snoc xs x y k h)
  where
    next : (slice_get xs k ≡ Some y) ⊎ ((k ≡ length xs) × (x ≡ y)) → (slice_get xs k ≡ Some y) ⊎ ((suc k ≡ suc (length xs)) × (x ≡ y))
    next (inl e) = inl e
    next (inr e) = inr (ap suc e.0, e.1)

-- a number that is kept stands where so many before it are kept
module _ (q : ℕ → Bool) where
  pub record IsKept (n k p : ℕ) : Type 0 where
    pub passes : q p ≡ true
    pub below : p < n
    pub count : count_by q (numbers p) ≡ k

  kept_later : (n k p : ℕ) → IsKept n k p → IsKept (suc n) k p
  kept_later n k p h = let l = h.below in record { passes = h.passes; below = omega arith; count = h.count }

  kept_by : (n k p : ℕ) (b : Bool) → q n ≡ b → (slice_get (filter q (numbers n)) k ≡ Some p → IsKept n k p) →
      slice_get (filter q (numbers n) ++ (if b then n ∷ [] else [])) k ≡ Some p → IsKept (suc n) k p
  kept_by n k p false e before h = kept_later n k p (before (sym (ap (λ (l : List ℕ). slice_get l k) (append-nil (filter q (numbers n)))) ∙ h))
  kept_by n k p true e before h = by (get_snoc (filter q (numbers n)) n p k h)
    where
      by : (slice_get (filter q (numbers n)) k ≡ Some p) ⊎ ((k ≡ length (filter q (numbers n))) × (n ≡ p)) → IsKept (suc n) k p
      by (inl s) = kept_later n k p (before s)
      by (inr s) =
          let same : n ≡ p = s.1 in
          record { passes = sym (ap q same) ∙ e; below = omega arith; count = ap (λ (j : ℕ). count_by q (numbers j)) (sym same) ∙ sym (length-filter q (numbers n)) ∙ sym s.0 }

  pub kept_at : (n k p : ℕ) → slice_get (filter q (numbers n)) k ≡ Some p → IsKept n k p
  kept_at zero k p h = absurd cc
  kept_at (suc n) k p h =
      let split : filter q (numbers (suc n)) ≡ filter q (numbers n) ++ (if q n then n ∷ [] else []) = (rw add-one at (filter-next q n)) in
      kept_by n k p (q n) refl (kept_at n k p) (sym (ap (λ (l : List ℕ). slice_get l k) split) ∙ h)

-- a symbol that a test finds is there
pub same_is : (s u : SymId) → same_symbol s u ≡ true → u ≡ s
same_is s u h = let n : s.0 ≡ u.0 = eqb-true s.0 u.0 h in λ i. record { 0 = sym n i }

found_first : (s x : SymId) (xs : List SymId) (b : Bool) → same_symbol s x ≡ b → (b || list_any (same_symbol s) xs) ≡ true → (list_any (same_symbol s) xs ≡ true → Contains xs s) → Contains (x ∷ xs) s
found_first s x xs true e f rest = (0, (let l : 0 < suc (length xs) = omega arith in l), same_is s x e)
found_first s x xs false e f rest =
    let c = rest f in
    (suc c.0, (let l : c.0 < length xs = c.1 in let m : suc c.0 < suc (length xs) = omega arith in m), c.2)

pub found_is : (s : SymId) (xs : List SymId) → list_any (same_symbol s) xs ≡ true → Contains xs s
found_is s [] h = absurd cc
found_is s (x ∷ xs) h = found_first s x xs (same_symbol s x) refl h (found_is s xs)
