-- Lists: their last elements, and maps over parts.
use Rattle.std.proofs.Common.{Bool, List, None, Option, Some, [], ap, arith, cond, false, filter, length, map, option_map, refl, slice_get, suc, sym, take, true, zero, ℕ, ◌++◌, ◌-◌, ◌||◌, ◌∙◌, ◌∷◌, ◌≡◌}
use Rattle.std.specs.{List.{cons_option, filter_map, last_or, list_any}, Option.option_or}
use Rattle.kc_language.specs.Expansion.{last_of, numbers}
use Rattle.kc_entries.specs.PartsOfSymbols.{first_of}

pub last_of-push : {A : Type 0} (xs : List A) (x : A) → last_of (xs ++ x ∷ []) ≡ Some x
last_of-push [] x = refl
last_of-push (y ∷ []) x = refl
last_of-push (y ∷ z ∷ zs) x = last_of-push (z ∷ zs) x

last_of-cons : {A : Type 0} (x y : A) (zs : List A) → last_of zs ≡ Some y → last_of (x ∷ zs) ≡ Some y
last_of-cons x y [] h = absurd cc
last_of-cons x y (z ∷ zs) h = h

pub last_of-append : {A : Type 0} (xs ys : List A) (y : A) → last_of ys ≡ Some y → last_of (xs ++ ys) ≡ Some y
last_of-append [] ys y e = e
last_of-append (x ∷ xs) ys y e = last_of-cons x y (xs ++ ys) (last_of-append xs ys y e)

pub last_of-map : {A B : Type 0} (f : A → B) (xs : List A) → last_of (map f xs) ≡ option_map f (last_of xs)
last_of-map f [] = refl
last_of-map f (x ∷ []) = refl
last_of-map f (x ∷ y ∷ ys) = last_of-map f (y ∷ ys)

pub last_of-get : {A : Type 0} (xs : List A) → slice_get xs (length xs - 1) ≡ last_of xs
last_of-get [] = refl
last_of-get (x ∷ []) = refl
last_of-get (x ∷ y ∷ ys) =
    let e : suc (suc (length ys)) - 1 ≡ suc (suc (length ys) - 1) = omega arith in
    rw e (last_of-get (y ∷ ys))

-- a list without its last element
abbrev pub but_last : {A : Type 0} → List A → List A
but_last [] = []
but_last (x ∷ []) = []
but_last (x ∷ y ∷ ys) = x ∷ but_last (y ∷ ys)

pub but_last-take : {A : Type 0} (xs : List A) → take (length xs - 1) xs ≡ but_last xs
but_last-take [] = refl
but_last-take (x ∷ []) = refl
but_last-take (x ∷ y ∷ ys) =
    let e : suc (suc (length ys)) - 1 ≡ suc (suc (length ys) - 1) = omega arith in
    rw e (ap (λ l. x ∷ l) (but_last-take (y ∷ ys)))

pub but_last-append : {A : Type 0} (xs : List A) (y : A) (ys : List A) → but_last (xs ++ y ∷ ys) ≡ xs ++ but_last (y ∷ ys)
but_last-append [] y ys = refl
but_last-append (x ∷ []) y ys = refl
but_last-append (x ∷ z ∷ zs) y ys = ap (λ l. x ∷ l) (but_last-append (z ∷ zs) y ys)

pub map-push : {A B : Type 0} (f : A → B) (xs : List A) (x : A) → map f (xs ++ x ∷ []) ≡ map f xs ++ f x ∷ []
map-push f [] x = refl
map-push f (y ∷ ys) x = ap (λ l. f y ∷ l) (map-push f ys x)

pub filter-map : {A B : Type 0} (p : B → Bool) (f : A → B) (xs : List A) → filter p (map f xs) ≡ map f (filter (λ x. p (f x)) xs)
filter-map p f [] = refl
filter-map p f (x ∷ xs) = by (p (f x)) (filter-map p f xs)
  where
    by : (b : Bool) → filter p (map f xs) ≡ map f (filter (λ x. p (f x)) xs) →
        cond b (f x ∷ filter p (map f xs)) (filter p (map f xs)) ≡ map f (cond b (x ∷ filter (λ x. p (f x)) xs) (filter (λ x. p (f x)) xs))
    by true h = ap (λ l. f x ∷ l) h
    by false h = h

pub filter_map-map : {A B C : Type 0} (g : B → Option C) (f : A → B) (xs : List A) → filter_map g (map f xs) ≡ filter_map (λ x. g (f x)) xs
filter_map-map g f [] = refl
filter_map-map g f (x ∷ xs) = ap (cons_option (g (f x))) (filter_map-map g f xs)

-- the elements that are kept, seen another way
pub map-filter_map : {A B C : Type 0} (h : B → C) (f : A → Option B) (g : A → Option C) → ((x : A) → option_map h (f x) ≡ g x) → (xs : List A) → map h (filter_map f xs) ≡ filter_map g xs
map-filter_map h f g same [] = refl
map-filter_map {A} {B} {C} h f g same (x ∷ xs) = by (f x) (g x) (same x) (map-filter_map h f g same xs)
  where
    by : (o : Option B) (p : Option C) → option_map h o ≡ p → map h (filter_map f xs) ≡ filter_map g xs → map h (cons_option o (filter_map f xs)) ≡ cons_option p (filter_map g xs)
    by None p e t = ap (λ q. cons_option q (map h (filter_map f xs))) e ∙ ap (cons_option p) t
    by (Some y) p e t = ap (λ q. cons_option q (map h (filter_map f xs))) e ∙ ap (cons_option p) t

pub list_any-map : {A B : Type 0} (p : B → Bool) (f : A → B) (xs : List A) → list_any p (map f xs) ≡ list_any (λ x. p (f x)) xs
list_any-map p f [] = refl
list_any-map p f (x ∷ xs) = ap (λ b. p (f x) || b) (list_any-map p f xs)

-- the numbers below one more, from the front
pub numbers_front : (n : ℕ) → numbers (suc n) ≡ zero ∷ map suc (numbers n)
numbers_front zero = refl
numbers_front (suc n) = ap (λ l. l ++ suc n ∷ []) (numbers_front n) ∙ ap (λ l. zero ∷ l) (sym (map-push suc (numbers n) n))

pub last_of-none : {A : Type 0} (xs : List A) → last_of xs ≡ None → xs ≡ []
last_of-none [] e = refl
last_of-none (x ∷ []) e = absurd cc
last_of-none (x ∷ y ∷ ys) e = absurd (let h : y ∷ ys ≡ [] = last_of-none (y ∷ ys) e in cc)

-- the last, of one element that there may be and of a list
pub last_or-cons_option : {A : Type 0} (o now : Option A) (xs : List A) → last_or now (cons_option o xs) ≡ last_or (option_or o now) xs
last_or-cons_option None now xs = refl
last_or-cons_option (Some a) now xs = refl

pub option_map-or : {A B : Type 0} (v : B → A) (o now : Option B) → option_map v (option_or o now) ≡ option_or (option_map v o) (option_map v now)
option_map-or v None now = refl
option_map-or v (Some b) now = refl

pub filter_map_alike : {A B : Type 0} (f g : A → Option B) (xs : List A) → ((x : A) → f x ≡ g x) → filter_map f xs ≡ filter_map g xs
filter_map_alike f g [] h = refl
filter_map_alike f g (x ∷ xs) h = rw (h x, filter_map_alike f g xs h) refl

-- the first of two lists
pub first_of-append : {A : Type 0} (xs ys : List A) → first_of (xs ++ ys) ≡ option_or (first_of xs) (first_of ys)
first_of-append [] ys = refl
first_of-append (x ∷ xs) ys = refl
