-- Facts about lists of facts.
use Rattle.std.proofs.Common.{◌≡◌, refl, ap, subst, ◌∙◌, inl, inr, true, false}
use Rattle.std.proofs.lemmas.Bool.{cases_Bool}
use Rattle.std.specs.List.{AllByRecursion, filter, find, flat_map, last_or}
use Rattle.std.specs.Prelude.{Bool, IfSome, List, None, Option, Some, [], map, not, ◌++◌, ◌∷◌, ◌⊎◌}
use Rattle.kc_outcome.specs.Explanations.{through}

pub found : {X : Type 0} (o : Option X) → (o ≡ None) ⊎ ((x : X) × (o ≡ Some x))
found None = inl refl
found (Some x) = inr (x, refl)

module _ {F : Type 0} (P : F → Type 0) where
  abbrev pub Each : List F → Type 0
  Each = AllByRecursion P

  pub front : (xs ys : List F) → Each (xs ++ ys) → Each xs
  front [] ys h = tt
  front (x ∷ xs) ys h = (h.0, front xs ys h.1)

  pub back : (xs ys : List F) → Each (xs ++ ys) → Each ys
  back [] ys h = h
  back (x ∷ xs) ys h = back xs ys h.1

  pub both : (xs ys : List F) → Each xs → Each ys → Each (xs ++ ys)
  both [] ys h k = k
  both (x ∷ xs) ys h k = (h.0, both xs ys h.1 k)

  pub mapped : {X : Type 0} (f : X → F) (xs : List X) → ((x : X) → P (f x)) → Each (map f xs)
  mapped f [] h = tt
  mapped f (x ∷ xs) h = (h x, mapped f xs h)

  pub of_map : {X : Type 0} (f : X → F) (xs : List X) → Each (map f xs) → AllByRecursion (λ x. P (f x)) xs
  of_map f [] h = tt
  of_map f (x ∷ xs) h = (h.0, of_map f xs h.1)

  pub flat : {X : Type 0} (f : X → List F) (xs : List X) → ((x : X) → Each (f x)) → Each (flat_map f xs)
  flat f [] h = tt
  flat f (x ∷ xs) h = both (f x) (flat_map f xs) (h x) (flat f xs h)

  pub of_flat : {X : Type 0} (f : X → List F) (xs : List X) → Each (flat_map f xs) → AllByRecursion (λ x. Each (f x)) xs
  of_flat f [] h = tt
  of_flat f (x ∷ xs) h = (front (f x) (flat_map f xs) h, of_flat f xs (back (f x) (flat_map f xs) h))

  pub to_flat : {X : Type 0} (f : X → List F) (xs : List X) → AllByRecursion (λ x. Each (f x)) xs → Each (flat_map f xs)
  to_flat f [] h = tt
  to_flat f (x ∷ xs) h = both (f x) (flat_map f xs) h.0 (to_flat f xs h.1)

  pub up_to : (met : F → Bool) (xs : List F) → Each xs → Each (through met xs)
  up_to met [] h = tt
  up_to met (x ∷ xs) h = elim (cases_Bool (met x)) [ inl e ↦ rw e (h.0, tt) | inr e ↦ rw e (h.0, up_to met xs h.1) ]

  pub last_holds : (o : Option F) (xs : List F) (x : F) → IfSome o P → Each xs → last_or o xs ≡ Some x → P x
  last_holds o [] x h k e = subst (λ o. IfSome o P) e h
  last_holds o (y ∷ ys) x h k e = last_holds (Some y) ys x k.0 k.1 e

pub changed : {X : Type 0} (P Q : X → Type 0) (xs : List X) → ((x : X) → P x → Q x) → AllByRecursion P xs → AllByRecursion Q xs
changed P Q [] f h = tt
changed P Q (x ∷ xs) f h = (f x h.0, changed P Q xs f h.1)

-- What holds of the elements that pass a test and of the others holds of all.
pub of_both : {X : Type 0} (p : X → Bool) (Q : X → Type 0) (xs : List X) → AllByRecursion Q (filter (λ x. not (p x)) xs) → AllByRecursion Q (filter p xs) → AllByRecursion Q xs
of_both p Q [] h k = tt
of_both p Q (x ∷ xs) h k = elim (cases_Bool (p x)) [
  | inl e ↦ let h2 : AllByRecursion Q (filter (λ x. not (p x)) xs) = rw e at h in let k2 : AllByRecursion Q (x ∷ filter p xs) = rw e at k in (k2.0, of_both p Q xs h2 k2.1)
  | inr e ↦ let h2 : AllByRecursion Q (x ∷ filter (λ x. not (p x)) xs) = rw e at h in let k2 : AllByRecursion Q (filter p xs) = rw e at k in (h2.0, of_both p Q xs h2.1 k2)
]

pub passing : {X : Type 0} (p : X → Bool) (P Q : X → Type 0) (xs : List X) → ((x : X) → p x ≡ true → P x → Q x) → AllByRecursion P (filter p xs) → AllByRecursion Q (filter p xs)
passing p P Q [] f h = tt
passing p P Q (x ∷ xs) f h = elim (cases_Bool (p x)) [
  | inl e ↦ let h2 : AllByRecursion P (x ∷ filter p xs) = rw e at h in rw e (f x e h2.0, passing p P Q xs f h2.1)
  | inr e ↦ let h2 : AllByRecursion P (filter p xs) = rw e at h in rw e (passing p P Q xs f h2)
]

pub all_passing : {X : Type 0} (p : X → Bool) (Q : X → Type 0) (xs : List X) → ((x : X) → p x ≡ true → Q x) → AllByRecursion Q (filter p xs)
all_passing p Q [] f = tt
all_passing p Q (x ∷ xs) f = elim (cases_Bool (p x)) [
  | inl e ↦ rw e (f x e, all_passing p Q xs f)
  | inr e ↦ rw e (all_passing p Q xs f)
]

pub map_same : {X Y : Type 0} (f g : X → Y) (xs : List X) → AllByRecursion (λ x. f x ≡ g x) xs → map f xs ≡ map g xs
map_same f g [] h = refl
map_same f g (x ∷ xs) h = ap (λ y. y ∷ map f xs) h.0 ∙ ap (λ ys. g x ∷ ys) (map_same f g xs h.1)

pub map_map : {X Y Z : Type 0} (f : Y → Z) (g : X → Y) (xs : List X) → map f (map g xs) ≡ map (λ x. f (g x)) xs
map_map f g [] = refl
map_map f g (x ∷ xs) = ap (λ zs. f (g x) ∷ zs) (map_map f g xs)

-- The first element that passes p is the first one that passes q, if both are the same up to it.
module _ {X Y : Type 0} (met : X → Bool) (p q : Y → Bool) (f : X → Y) (R : X → Type 0) where
  pub record First (xs : List X) : Type 0 where
    pub it : X
    pub passes : met it ≡ true
    pub first : find p (map f xs) ≡ Some (f it)
    pub also : find q (map f xs) ≡ Some (f it)
    pub known : R it

  abbrev pub IsFirst : List X → Type 0
  IsFirst xs = ((find p (map f xs) ≡ None) × (find q (map f xs) ≡ None)) ⊎ First xs

  pub first_of : ((x : X) → p (f x) ≡ met x) → (xs : List X) → AllByRecursion (λ x. (q (f x) ≡ met x) × R x) (through met xs) → IsFirst xs
  first_of same [] h = inl (refl, refl)
  first_of same (x ∷ xs) h = elim (cases_Bool (met x)) [
    | inl e ↦
        let here : AllByRecursion (λ x. (q (f x) ≡ met x) × R x) (x ∷ []) = rw e at h in
        let t : p (f x) ≡ true = same x ∙ e in let u : q (f x) ≡ true = (here.0).0 ∙ e in
        inr (record { it = x; passes = e; first = rw t refl; also = rw u refl; known = (here.0).1 })
    | inr e ↦
        let here : AllByRecursion (λ x. (q (f x) ≡ met x) × R x) (x ∷ through met xs) = rw e at h in
        let t : p (f x) ≡ false = same x ∙ e in let u : q (f x) ≡ false = (here.0).0 ∙ e in
        elim (first_of same xs here.1) [
          | inl none ↦ inl (rw t none.0, rw u none.1)
          | inr r ↦ inr (record { it = r.it; passes = r.passes; first = rw t r.first; also = rw u r.also; known = r.known })
        ]
  ]
