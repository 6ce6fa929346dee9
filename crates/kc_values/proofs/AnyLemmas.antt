-- Whether an element of a list passes a test.
use Rattle.std.proofs.{Common.{Bool, List, None, Option, Some, [], ap, arith, cond, false, map, refl, reverse, suc, sym, true, ℕ, ◌&&◌, ◌==◌, ◌||◌, ◌∙◌, ◌∷◌, ◌≡◌}, lemmas.{Bool.{eqb-true, true≢false}, Grind.reverse_onto, List.Folds.{list_any-append, list_any_at}}}
use Rattle.std.specs.{List.{Contains, cons_option, filter_map, flat_map, list_any}, Prelude.filter}

-- of an option: none does not pass
abbrev pub passes : {X : Type 0} → (X → Bool) → Option X → Bool
passes p None = false
passes p (Some x) = p x

-- a list has an element
abbrev pub has_some : {X : Type 0} → List X → Bool
has_some [] = false
has_some (x ∷ xs) = true

pub any_same : {X : Type 0} (p q : X → Bool) → ((x : X) → p x ≡ q x) → (xs : List X) → list_any p xs ≡ list_any q xs
any_same p q h [] = refl
any_same p q h (x ∷ xs) = let a = h x in let b = any_same p q h xs in cc

pub any_none : {X : Type 0} (p : X → Bool) → ((x : X) → p x ≡ false) → (xs : List X) → list_any p xs ≡ false
any_none p h [] = refl
any_none p h (x ∷ xs) = ap (λ b. b || list_any p xs) (h x) ∙ any_none p h xs

pub any_or : {X : Type 0} (p q : X → Bool) (xs : List X) → list_any (λ x. p x || q x) xs ≡ (list_any p xs || list_any q xs)
any_or p q [] = refl
any_or p q (x ∷ xs) = regroup (p x) (q x) (list_any p xs) (list_any q xs) (list_any (λ y. p y || q y) xs) (any_or p q xs)
  where
    regroup : (a b c d e : Bool) → e ≡ (c || d) → ((a || b) || e) ≡ ((a || c) || (b || d))
    regroup a b c d e h = grind arith

-- a test that holds of each element, beside another one
pub any_beside : {X : Type 0} (a : Bool) (q : X → Bool) (xs : List X) → list_any (λ x. a || q x) xs ≡ ((has_some xs && a) || list_any q xs)
any_beside a q [] = refl
any_beside a q (x ∷ xs) = regroup a (q x) (has_some xs) (list_any q xs) (list_any (λ y. a || q y) xs) (any_beside a q xs)
  where
    regroup : (a b s d e : Bool) → e ≡ ((s && a) || d) → ((a || b) || e) ≡ (a || (b || d))
    regroup a b s d e h = grind arith

pub any_flat : {X Y : Type 0} (p : Y → Bool) (f : X → List Y) (xs : List X) → list_any p (flat_map f xs) ≡ list_any (λ x. list_any p (f x)) xs
any_flat p f [] = refl
any_flat p f (x ∷ xs) = list_any-append p (f x) (flat_map f xs) ∙ ap (λ b. list_any p (f x) || b) (any_flat p f xs)

pub any_map : {X Y : Type 0} (p : Y → Bool) (f : X → Y) (xs : List X) → list_any p (map f xs) ≡ list_any (λ x. p (f x)) xs
any_map p f [] = refl
any_map p f (x ∷ xs) = ap (λ b. p (f x) || b) (any_map p f xs)

any_option : {Y : Type 0} (p : Y → Bool) (o : Option Y) (ys : List Y) → list_any p (cons_option o ys) ≡ (passes p o || list_any p ys)
any_option p None ys = refl
any_option p (Some y) ys = refl

pub any_found : {X Y : Type 0} (p : Y → Bool) (h : X → Option Y) (xs : List X) → list_any p (filter_map h xs) ≡ list_any (λ x. passes p (h x)) xs
any_found p h [] = refl
any_found p h (x ∷ xs) = any_option p (h x) (filter_map h xs) ∙ ap (λ b. passes p (h x) || b) (any_found p h xs)

kept : {X : Type 0} (p : X → Bool) (b : Bool) (x : X) (xs : List X) (e : Bool) → list_any p xs ≡ e → list_any p (cond b (x ∷ xs) xs) ≡ ((b && p x) || e)
kept p true x xs e h = ap (λ c. p x || c) h
kept p false x xs e h = h

pub any_filter : {X : Type 0} (p q : X → Bool) (xs : List X) → list_any p (filter q xs) ≡ list_any (λ x. q x && p x) xs
any_filter p q [] = refl
any_filter p q (x ∷ xs) = kept p (q x) x (filter q xs) (list_any (λ y. q y && p y) xs) (any_filter p q xs)

pub any_reverse : {X : Type 0} (p : X → Bool) (xs : List X) → list_any p (reverse xs) ≡ list_any p xs
any_reverse p [] = refl
any_reverse p (x ∷ xs) =
    ap (list_any p) (reverse_onto xs x []) ∙ list_any-append p (reverse xs) (x ∷ []) ∙ turned (list_any p (reverse xs)) (p x) (list_any p xs) (any_reverse p xs)
  where
    turned : (a b c : Bool) → a ≡ c → (a || (b || false)) ≡ (b || c)
    turned a b c h = grind arith

-- a number stands in a list
abbrev pub stands : ℕ → List ℕ → Bool
stands v xs = list_any (λ m. m == v) xs

pub stands_in : (v : ℕ) (xs : List ℕ) → stands v xs ≡ true → Contains xs v
stands_in v [] e = absurd (true≢false (sym e))
stands_in v (x ∷ xs) e = by_first (x == v) refl (λ h. stands_in v xs h)
  where
    by_first : (b : Bool) → (x == v) ≡ b → (stands v xs ≡ true → Contains xs v) → Contains (x ∷ xs) v
    by_first true h rest = (0, omega arith, eqb-true x v h)
    by_first false h rest = let c = rest (sym (ap (λ b. b || stands v xs) h) ∙ e) in (suc c.0, omega (arith, c.1), c.2)

pub in_stands : (v : ℕ) (xs : List ℕ) → Contains xs v → stands v xs ≡ true
in_stands v xs c = list_any_at (λ m. m == v) xs c.0 v c.1 (ap (λ m. m == v) c.2 ∙ same v)
  where
    same : (v : ℕ) → (v == v) ≡ true
    same v = grind arith
