-- Lists over the places of a list, one place more; and what stands at a place of a longer list.
use Rattle.std.proofs.{Common.{Bool, List, Option, Some, [], add-one, ap, arith, cond, drop, filter, get_or, if◌then◌else◌, length, length-append, map, refl, suc, sym, zero, ℕ, ◌++◌, ◌+◌, ◌<◌, ◌∙◌, ◌∷◌, ◌≡◌, ◌≤◌}, lemmas.{Grind.flat_map-append, List.{Elements.{filter-append, filter_map-append}, append-nil, drop-drop, length-map, map-append}, Option.slice_get-get_or}}
use Rattle.std.specs.List.{cons_option, count_by, filter_map, flat_map, fold, slice_get}
use Rattle.kc_language.specs.Expansion.{numbers}
use Rattle.kc_entries.proofs.EnclosingLemmas.{numbers-from, numbers_from}

pub numbers-next : (i : ℕ) → numbers (i + 1) ≡ numbers i ++ i ∷ []
numbers-next i = rw add-one refl

pub map-next : {X : Type 0} (f : ℕ → X) (i : ℕ) (out : List X) (x : X) → out ≡ map f (numbers i) → x ≡ f i → out ++ x ∷ [] ≡ map f (numbers (i + 1))
map-next f i out x h e = rw (numbers-next i, map-append f (numbers i) (i ∷ []), h, e) refl

pub filter-next : (p : ℕ → Bool) (i : ℕ) → filter p (numbers (i + 1)) ≡ filter p (numbers i) ++ (if p i then i ∷ [] else [])
filter-next p i = rw (numbers-next i, filter-append p (numbers i) (i ∷ [])) refl

pub flat_map-next : {X : Type 0} (f : ℕ → List X) (i : ℕ) → flat_map f (numbers (i + 1)) ≡ flat_map f (numbers i) ++ f i
flat_map-next f i = rw (numbers-next i, flat_map-append f (numbers i) (i ∷ []), append-nil (f i)) refl

pub filter_map-next : {X : Type 0} (f : ℕ → Option X) (i : ℕ) → filter_map f (numbers (i + 1)) ≡ filter_map f (numbers i) ++ cons_option (f i) []
filter_map-next f i = rw (numbers-next i, filter_map-append f (numbers i) (i ∷ [])) refl

pub length-numbers : (n : ℕ) → length (numbers n) ≡ n
length-numbers zero = refl
length-numbers (suc n) = omega (arith, length-append (numbers n) (n ∷ []), length-numbers n)

pub length-map_numbers : {X : Type 0} (f : ℕ → X) (n : ℕ) → length (map f (numbers n)) ≡ n
length-map_numbers f n = length-map (numbers n) f ∙ length-numbers n

get-from : {X : Type 0} (f : ℕ → X) (p n k : ℕ) → k < n → slice_get (map f (numbers_from p n)) k ≡ Some (f (p + k))
get-from f p zero k h = absurd (omega arith)
get-from f p (suc n) zero h = let e : p + 0 ≡ p = omega arith in rw e refl
get-from f p (suc n) (suc k) h = let e : p + suc k ≡ suc p + k = omega arith in rw e (get-from f (suc p) n k (omega arith))

pub get-map_numbers : {X : Type 0} (f : ℕ → X) (n k : ℕ) → k < n → slice_get (map f (numbers n)) k ≡ Some (f k)
get-map_numbers f n k h = let e : 0 + k ≡ k = omega arith in rw (numbers-from n) (rw e at (get-from f 0 n k h))

pub view_next : {A B : Type 0} (v : A → B) (f : ℕ → B) (i : ℕ) (out new : List A) (x : A) → map v out ≡ map f (numbers i) → v x ≡ f i → new ≡ out ++ x ∷ [] → map v new ≡ map f (numbers (i + 1))
view_next v f i out new x h e n =
    ap (map v) n ∙ map-append v out (x ∷ []) ∙ map-next f i (map v out) (v x) h e

pub front_get : {X : Type 0} (xs ys : List X) (i : ℕ) (x : X) → slice_get xs i ≡ Some x → slice_get (xs ++ ys) i ≡ Some x
front_get [] ys i x e = absurd cc
front_get (y ∷ xs) ys zero x e = e
front_get (y ∷ xs) ys (suc i) x e = front_get xs ys i x e

pub end_get : {X : Type 0} (xs : List X) (x : X) → slice_get (xs ++ x ∷ []) (length xs) ≡ Some x
end_get [] x = refl
end_get (y ∷ xs) x = end_get xs x

pub there_in : {X : Type 0} (xs : List X) (i : ℕ) → i < length xs → (x : X) × (slice_get xs i ≡ Some x)
there_in [] i h = absurd (omega arith)
there_in (x ∷ xs) zero h = (x, refl)
there_in (x ∷ xs) (suc i) h = there_in xs i (omega arith)

pub get_front : {X : Type 0} (xs ys : List X) (i : ℕ) → i < length xs → slice_get (xs ++ ys) i ≡ slice_get xs i
get_front [] ys i h = absurd (omega arith)
get_front (x ∷ xs) ys zero h = refl
get_front (x ∷ xs) ys (suc i) h = get_front xs ys i (omega arith)

pub drop-get : {X : Type 0} (xs : List X) (i : ℕ) (x : X) → slice_get xs i ≡ Some x → drop i xs ≡ x ∷ drop (suc i) xs
drop-get [] i x h = cc
drop-get (y ∷ xs) zero x h = cc
drop-get (y ∷ xs) (suc i) x h = drop-get xs i x h

pub drop_at : {X : Type 0} (xs : List X) (i : ℕ) (x : X) → i < length xs → x ≡ get_or xs i x → drop i xs ≡ x ∷ drop (i + 1) xs
drop_at xs i x h e = drop-get xs i x (slice_get-get_or xs i x h ∙ ap Some (sym e)) ∙ (rw add-one refl)

pub drop_past : {X : Type 0} (xs : List X) (i : ℕ) → length xs ≤ i → drop i xs ≡ []
drop_past [] zero h = refl
drop_past [] (suc i) h = refl
drop_past (x ∷ xs) zero h = absurd (omega arith)
drop_past (x ∷ xs) (suc i) h = drop_past xs i (omega arith)

pub get-dropped : {X : Type 0} (xs : List X) (n : ℕ) (x : X) (ys : List X) → drop n xs ≡ x ∷ ys → slice_get xs n ≡ Some x
get-dropped [] zero x ys e = cc
get-dropped [] (suc n) x ys e = cc
get-dropped (y ∷ xs) zero x ys e = cc
get-dropped (y ∷ xs) (suc n) x ys e = get-dropped xs n x ys e

pub drop-dropped : {X : Type 0} (xs : List X) (n : ℕ) (x : X) (ys : List X) → drop n xs ≡ x ∷ ys → drop (n + 1) xs ≡ ys
drop-dropped xs n x ys e = sym (drop-drop 1 n xs) ∙ ap (drop 1) e

fold_snoc : (g : ℕ → ℕ → ℕ) (a : ℕ) (xs : List ℕ) (x : ℕ) → fold g a (xs ++ x ∷ []) ≡ g (fold g a xs) x
fold_snoc g a [] x = refl
fold_snoc g a (y ∷ xs) x = fold_snoc g (g a y) xs x

pub count_snoc : (p : ℕ → Bool) (xs : List ℕ) (n : ℕ) → count_by p (xs ++ n ∷ []) ≡ count_by p xs + cond (p n) 1 0
count_snoc p xs n = fold_snoc (λ (a x : ℕ). a + cond (p x) 1 0) 0 xs n

pub count_next : (p : ℕ → Bool) (n : ℕ) → count_by p (numbers (suc n)) ≡ count_by p (numbers n) + cond (p n) 1 0
count_next p n = count_snoc p (numbers n) n
