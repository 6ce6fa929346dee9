-- What holds of each element of a list.
use Rattle.std.proofs.{Common.{Bool, List, None, Option, Some, [], ap, arith, cond, false, map, refl, reverse, subst, suc, sym, true, ◌++◌, ◌||◌, ◌∷◌, ◌≡◌}, lemmas.{Bool.true≢false, Grind.reverse_onto}}
use Rattle.std.specs.{List.{AllByRecursion, Contains, cons_option, filter_map, flat_map, list_any}, Option.is_some}
use Rattle.kc_values.proofs.Same.{back_of, front_of}

-- of an option, if there is something
abbrev pub OfSome : {X : Type 0} → (X → Type 0) → Option X → Type 0
OfSome P None = Unit {0}
OfSome P (Some x) = P x

module _ {X : Type 0} where
  pub all_same : (P Q : X → Type 0) → ((x : X) → P x → Q x) → (xs : List X) → AllByRecursion P xs → AllByRecursion Q xs
  all_same P Q f [] h = tt
  all_same P Q f (x ∷ xs) h = (f x h.0, all_same P Q f xs h.1)

  pub all_two : (P Q : X → Type 0) (xs : List X) → AllByRecursion P xs → AllByRecursion Q xs → AllByRecursion (λ x. P x × Q x) xs
  all_two P Q [] h q = tt
  all_two P Q (x ∷ xs) h q = ((h.0, q.0), all_two P Q xs h.1 q.1)

  pub all_append : (P : X → Type 0) (xs ys : List X) → AllByRecursion P xs → AllByRecursion P ys → AllByRecursion P (xs ++ ys)
  all_append P [] ys h q = q
  all_append P (x ∷ xs) ys h q = (h.0, all_append P xs ys h.1 q)

  pub all_reverse : (P : X → Type 0) (xs : List X) → AllByRecursion P (reverse xs) → AllByRecursion P xs
  all_reverse P [] h = tt
  all_reverse P (x ∷ xs) h =
      let turned = subst (AllByRecursion P) (reverse_onto xs x []) h in
      ((back_of P (reverse xs) (x ∷ []) turned).0, all_reverse P xs (front_of P (reverse xs) (x ∷ []) turned))

or_true : (b c : Bool) → c ≡ true → (b || c) ≡ true
or_true true c e = refl
or_true false c e = e

all_option : {Y : Type 0} (P : Y → Type 0) (o : Option Y) (ys : List Y) → OfSome P o → AllByRecursion P ys → AllByRecursion P (cons_option o ys)
all_option P None ys h q = q
all_option P (Some y) ys h q = (h, q)

-- of all that a list contains
pub all_contained : {X : Type 0} (P : X → Type 0) (xs : List X) → ((x : X) → Contains xs x → P x) → AllByRecursion P xs
all_contained P [] h = tt
all_contained P (x ∷ xs) h = (h x (0, omega arith, refl), all_contained P xs (λ y c. h y (suc c.0, omega (arith, c.1), c.2)))

module _ {X Y : Type 0} where
  -- of what a filter keeps
  pub all_kept : (P : Y → Type 0) (f : X → Y) (b : Bool) (x : X) (xs : List X) → AllByRecursion P (map f (cond b (x ∷ xs) xs)) → (b ≡ true → P (f x)) × AllByRecursion P (map f xs)
  all_kept P f true x xs h = (λ e. h.0, h.1)
  all_kept P f false x xs h = (λ e. absurd (true≢false (sym e)), h)

  pub all_map : (P : Y → Type 0) (f : X → Y) (xs : List X) → AllByRecursion (λ x. P (f x)) xs → AllByRecursion P (map f xs)
  all_map P f [] h = tt
  all_map P f (x ∷ xs) h = (h.0, all_map P f xs h.1)

  pub all_found : (P : Y → Type 0) (f : X → Option Y) (xs : List X) → AllByRecursion (λ x. OfSome P (f x)) xs → AllByRecursion P (filter_map f xs)
  all_found P f [] h = tt
  all_found P f (x ∷ xs) h = all_option P (f x) (filter_map f xs) h.0 (all_found P f xs h.1)

  pub all_flat : (P : Y → Type 0) (f : X → List Y) (xs : List X) → AllByRecursion (λ x. AllByRecursion P (f x)) xs → AllByRecursion P (flat_map f xs)
  all_flat P f [] h = tt
  all_flat P f (x ∷ xs) h = all_append P (f x) (flat_map f xs) h.0 (all_flat P f xs h.1)

  pub in_flat : (P : Y → Type 0) (f : X → List Y) (xs : List X) → AllByRecursion P (flat_map f xs) → AllByRecursion (λ x. AllByRecursion P (f x)) xs
  in_flat P f [] h = tt
  in_flat P f (x ∷ xs) h = (front_of P (f x) (flat_map f xs) h, in_flat P f xs (back_of P (f x) (flat_map f xs) h))

  -- what holds if one of them says something
  pub all_saying : (A : Type 0) (f : X → Option Y) (xs : List X) → (list_any (λ x. is_some (f x)) xs ≡ true → A) → AllByRecursion (λ x. is_some (f x) ≡ true → A) xs
  all_saying A f [] h = tt
  all_saying A f (x ∷ xs) h =
      let rest = list_any (λ y. is_some (f y)) xs in
      (λ e. h (ap (λ b. b || rest) e), all_saying A f xs (λ e. h (or_true (is_some (f x)) rest e)))
