-- Lists over numbers, seen as flat maps.
use Rattle.std.proofs.{Common.{Bool, List, None, Option, Some, [], add-one, ap, append_assoc, arith, cond, drop, false, filter, length, map, refl, subst, suc, sym, take, true, zero, ℕ, ◌++◌, ◌+◌, ◌-◌, ◌<◌, ◌∙◌, ◌∷◌, ◌≡◌, ◌≤◌}, lemmas.{Grind.flat_map-append, List.{Concat.flat_map_single, Elements.filter-append, Folds.flat_map-map, Sums.length-filter, append-nil, length-append}}}
use Rattle.std.specs.{List.{cons_option, count_by, filter_map, flat_map, range_with_len, slice_get}, Option.{is_some, option_and_then}, Prelude.option_map}
use Rattle.kc_language.specs.{Expansion.{last_of, numbers}, Symbols.listed}
use Rattle.kc_entries.proofs.{ElementLemmas.kept_at, EnclosingLemmas.{numbers-from, numbers_from}, ListLemmas.{last_of-get, last_of-map, numbers_front}, PlaceLemmas.{end_get, front_get}}

range-from : (n from : ℕ) → numbers_from from n ≡ range_with_len from n
range-from zero from = refl
range-from (suc n) from = ap (λ r. from ∷ r) (range-from n (suc from) ∙ ap (λ k. range_with_len k n) (sym (add-one from)))

pub numbers-range : (n : ℕ) → range_with_len 0 (n - 0) ≡ numbers n
numbers-range n = let z : n - 0 ≡ n = omega arith in ap (range_with_len 0) z ∙ sym (numbers-from n ∙ range-from n 0)

pub get-drop : {X : Type 0} (xs : List X) (n k : ℕ) → slice_get (drop n xs) k ≡ slice_get xs (n + k)
get-drop xs zero k = let z : 0 + k ≡ k = omega arith in ap (slice_get xs) (sym z)
get-drop [] (suc n) k = refl
get-drop (x ∷ xs) (suc n) k = let z : suc n + k ≡ suc (n + k) = omega arith in get-drop xs n k ∙ ap (slice_get (x ∷ xs)) (sym z)

pub get-take : {X : Type 0} (xs : List X) (n k : ℕ) → k < n → slice_get (take n xs) k ≡ slice_get xs k
get-take xs zero k h = absurd (omega (arith, h))
get-take [] (suc n) k h = refl
get-take (x ∷ xs) (suc n) zero h = refl
get-take (x ∷ xs) (suc n) (suc k) h = get-take xs n k (omega (arith, h))

module _ {X : Type 0} where
  pub flat-filter_map : {A : Type 0} (f : A → Option X) (xs : List A) → filter_map f xs ≡ flat_map (λ x. listed (f x)) xs
  flat-filter_map f [] = refl
  flat-filter_map {A} f (x ∷ xs) = by (f x) (filter_map f xs) (flat_map (λ y. listed (f y)) xs) (flat-filter_map f xs)
    where
      by : (o : Option X) (r t : List X) → r ≡ t → cons_option o r ≡ listed o ++ t
      by None r t e = e
      by (Some y) r t e = ap (λ l. y ∷ l) e

  pub flat-filter : {A : Type 0} (q : A → Bool) (f : A → List X) (xs : List A) → flat_map f (filter q xs) ≡ flat_map (λ x. cond (q x) (f x) []) xs
  flat-filter q f [] = refl
  flat-filter {A} q f (x ∷ xs) = by (q x) (flat-filter q f xs)
    where
      by : (b : Bool) → flat_map f (filter q xs) ≡ flat_map (λ y. cond (q y) (f y) []) xs →
          flat_map f (cond b (x ∷ filter q xs) (filter q xs)) ≡ cond b (f x) [] ++ flat_map (λ y. cond (q y) (f y) []) xs
      by true e = ap (λ l. f x ++ l) e
      by false e = e

  pub flat-map : {A B : Type 0} (f : B → List X) (g : A → B) (xs : List A) → flat_map f (map g xs) ≡ flat_map (λ x. f (g x)) xs
  flat-map f g xs = flat_map-map f g xs

  pub flat-flat : {A B : Type 0} (f : B → List X) (g : A → List B) (xs : List A) → flat_map f (flat_map g xs) ≡ flat_map (λ x. flat_map f (g x)) xs
  flat-flat f g [] = refl
  flat-flat f g (x ∷ xs) = flat_map-append f (g x) (flat_map g xs) ∙ ap (λ l. flat_map f (g x) ++ l) (flat-flat f g xs)

  pub flat-one : {A : Type 0} (g : A → X) (xs : List A) → map g xs ≡ flat_map (λ x. g x ∷ []) xs
  flat-one g xs = sym (flat_map_single g xs)

  pub flat-same : (xs : List X) → flat_map (λ x. x ∷ []) xs ≡ xs
  flat-same [] = refl
  flat-same (x ∷ xs) = ap (λ r. x ∷ r) (flat-same xs)

  -- what depends on no element
  pub flat-pulled : {A : Type 0} (b : Bool) (f : A → List X) (xs : List A) → flat_map (λ x. cond b (f x) []) xs ≡ cond b (flat_map f xs) []
  flat-pulled true f xs = refl
  flat-pulled false f [] = refl
  flat-pulled false f (x ∷ xs) = flat-pulled false f xs

  pub flat-each : {A : Type 0} (f g : A → List X) → ((x : A) → f x ≡ g x) → (xs : List A) → flat_map f xs ≡ flat_map g xs
  flat-each f g h [] = refl
  flat-each f g h (x ∷ xs) = λ j. h x j ++ flat-each f g h xs j

  -- by the places of the elements
  pub flat-get : {A : Type 0} (f : Option A → List X) (xs : List A) → flat_map (λ j. f (slice_get xs j)) (numbers (length xs)) ≡ flat_map (λ x. f (Some x)) xs
  flat-get f [] = refl
  flat-get f (x ∷ xs) =
      ap (flat_map (λ j. f (slice_get (x ∷ xs) j))) (numbers_front (length xs))
      ∙ ap (λ r. f (Some x) ++ r) (flat_map-map (λ j. f (slice_get (x ∷ xs) j)) suc (numbers (length xs)) ∙ flat-get f xs)

  -- of numbers below a bound, and of those that pass a test
  pub flat-below : (f g : ℕ → List X) (n : ℕ) → ((k : ℕ) → k < n → f k ≡ g k) → flat_map f (numbers n) ≡ flat_map g (numbers n)
  flat-below f g zero h = refl
  flat-below f g (suc n) h =
      flat_map-append f (numbers n) (n ∷ [])
      ∙ (λ j. flat-below f g n (λ k b. h k (omega (arith, b))) j ++ (h n (omega arith) j ++ []))
      ∙ sym (flat_map-append g (numbers n) (n ∷ []))

  pub flat-kept : (q : ℕ → Bool) (f g : ℕ → List X) (n : ℕ) → ((k : ℕ) → k < n → q k ≡ true → f k ≡ g k) → flat_map f (filter q (numbers n)) ≡ flat_map g (filter q (numbers n))
  flat-kept q f g n h =
      flat-filter q f (numbers n)
      ∙ flat-below (λ k. cond (q k) (f k) []) (λ k. cond (q k) (g k) []) n (λ k b. by k b (q k) refl)
      ∙ sym (flat-filter q g (numbers n))
    where
      by : (k : ℕ) → k < n → (b : Bool) → q k ≡ b → cond b (f k) [] ≡ cond b (g k) []
      by k l true t = h k l t
      by k l false t = refl

filter-flat : (p : ℕ → Bool) (xs : List ℕ) → filter p xs ≡ flat_map (λ k. cond (p k) (k ∷ []) []) xs
filter-flat p xs = sym (flat-same (filter p xs)) ∙ flat-filter p (λ k. k ∷ []) xs

pub filter-below : (p q : ℕ → Bool) (n : ℕ) → ((i : ℕ) → i < n → p i ≡ q i) → filter p (numbers n) ≡ filter q (numbers n)
filter-below p q n h = filter-flat p (numbers n) ∙ flat-below _ _ n (λ k b. ap (λ c. cond c (k ∷ []) []) (h k b)) ∙ sym (filter-flat q (numbers n))

pub map-kept : {X : Type 0} (q : ℕ → Bool) (f g : ℕ → X) (n : ℕ) → ((k : ℕ) → k < n → q k ≡ true → f k ≡ g k) → map f (filter q (numbers n)) ≡ map g (filter q (numbers n))
map-kept q f g n h =
    flat-one f (filter q (numbers n)) ∙ flat-kept q (λ k. f k ∷ []) (λ k. g k ∷ []) n (λ k b t. ap (λ x. x ∷ []) (h k b t)) ∙ sym (flat-one g (filter q (numbers n)))

pub map-map_is : {A B X : Type 0} (f : B → X) (g : A → B) (xs : List A) → map f (map g xs) ≡ map (λ x. f (g x)) xs
map-map_is f g [] = refl
map-map_is f g (x ∷ xs) = ap (λ l. f (g x) ∷ l) (map-map_is f g xs)

-- Numbers that pass a test, below a bound.
module _ (q : ℕ → Bool) where
  abbrev pub up_to : ℕ → List ℕ
  up_to n = filter q (numbers n)

  -- those below a greater bound
  pub up_to-more : (d m : ℕ) → (ys : List ℕ) × (up_to (m + d) ≡ up_to m ++ ys)
  up_to-more zero m = let z : m + 0 ≡ m = omega arith in ([], ap up_to z ∙ sym (append-nil (up_to m)))
  up_to-more (suc d) m =
      let z : m + suc d ≡ suc (m + d) = omega arith in
      let ys = up_to-more d m in (
        ys.0 ++ cond (q (m + d)) ((m + d) ∷ []) [],
        ap up_to z ∙ filter-append q (numbers (m + d)) ((m + d) ∷ []) ∙ ap (λ r. r ++ cond (q (m + d)) ((m + d) ∷ []) []) (ys.1)
            ∙ append_assoc (up_to m) (ys.0) (cond (q (m + d)) ((m + d) ∷ []) []),
      )

  pub up_to-longer : (m n : ℕ) → m ≤ n → (ys : List ℕ) × (up_to n ≡ up_to m ++ ys)
  up_to-longer m n h = let z : m + (n - m) ≡ n = omega (arith, h) in subst (λ k. (ys : List ℕ) × (up_to k ≡ up_to m ++ ys)) z (up_to-more (n - m) m)

  pub up_to-step : (n : ℕ) → q n ≡ true → up_to (suc n) ≡ up_to n ++ n ∷ []
  up_to-step n e = filter-append q (numbers n) (n ∷ []) ∙ ap (λ b. up_to n ++ cond b (n ∷ []) []) e

  pub up_to-skip : (n : ℕ) → q n ≡ false → up_to (suc n) ≡ up_to n
  up_to-skip n e = filter-append q (numbers n) (n ∷ []) ∙ ap (λ b. up_to n ++ cond b (n ∷ []) []) e ∙ append-nil (up_to n)

  pub count-between : (a b : ℕ) → a ≤ b → count_by q (numbers a) ≤ count_by q (numbers b)
  count-between a b h =
      let more = up_to-longer a b h in
      let same = ap length (more.1) in
      let all = length-append (up_to a) (more.0) in
      let low = length-filter q (numbers a) in
      let high = length-filter q (numbers b) in
      omega (arith, same, all, low, high)

  -- one that passes stands behind as many as pass before it
  pub kept-there : (n e : ℕ) → e < n → q e ≡ true → slice_get (up_to n) (count_by q (numbers e)) ≡ Some e
  kept-there n e h p =
      let more = up_to-longer (suc e) n (omega (arith, h)) in
      (λ j. slice_get ((more.1 ∙ ap (λ r. r ++ more.0) (up_to-step e p)) j) (sym (length-filter q (numbers e)) j))
      ∙ front_get (up_to e ++ e ∷ []) (more.0) (length (up_to e)) e (end_get (up_to e) e)

-- The place of the last element that gives something.
module _ {A X : Type 0} (f : A → Option X) (xs : List A) where
  abbrev at : ℕ → Option X
  at j = option_and_then f (slice_get xs j)

  abbrev last_place : Option ℕ
  last_place = last_of (filter (λ j. is_some (at j)) (numbers (length xs)))

  kept : (js : List ℕ) → map Some (filter_map at js) ≡ map at (filter (λ j. is_some (at j)) js)
  kept [] = refl
  kept (j ∷ js) = by (at j) refl (kept js)
    where
      by : (o : Option X) → at j ≡ o → map Some (filter_map at js) ≡ map at (filter (λ k. is_some (at k)) js) →
          map Some (cons_option o (filter_map at js)) ≡ map at (cond (is_some o) (j ∷ filter (λ k. is_some (at k)) js) (filter (λ k. is_some (at k)) js))
      by None e h = h
      by (Some x) e h = λ i. sym e i ∷ h i

  some-all : (o : Option X) → option_and_then (λ p. p) (option_map Some o) ≡ o
  some-all None = refl
  some-all (Some x) = refl

  then-all : (o : Option ℕ) → option_and_then (λ p. p) (option_map at o) ≡ option_and_then at o
  then-all None = refl
  then-all (Some j) = refl

  pub last-kept : option_and_then at last_place ≡ last_of (filter_map f xs)
  last-kept =
      let js = filter (λ j. is_some (at j)) (numbers (length xs)) in
      sym (then-all last_place)
      ∙ ap (option_and_then (λ p. p)) (sym (last_of-map at (filter (λ j. is_some (at j)) (numbers (length xs)))) ∙ ap last_of (sym (kept (numbers (length xs)))) ∙ last_of-map Some (filter_map at (numbers (length xs))))
      ∙ some-all (last_of (filter_map at (numbers (length xs))))
      ∙ ap last_of (flat-filter_map at (numbers (length xs)) ∙ flat-get (λ o. listed (option_and_then f o)) xs ∙ sym (flat-filter_map f xs))

  pub last-below : (j : ℕ) → last_place ≡ Some j → j < length xs
  last-below j e = (kept_at (λ k. is_some (at k)) (length xs) _ j (last_of-get (filter (λ k. is_some (at k)) (numbers (length xs))) ∙ e)).below
