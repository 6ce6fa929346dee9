-- Lists whose symbols are known alike give the same.
use Rattle.std.proofs.{Common.{Bool, List, None, Option, Some, [], ap, cond, false, map, refl, sym, true, ℕ, ◌++◌, ◌∷◌, ◌≡◌}, lemmas.Bool.{eq-eqb, eqb-true, true≢false}}
use Rattle.std.specs.List.{AllByRecursion, find}
use Rattle.kc_language.specs.{Expressions.same_symbol, declared.expressions.SymId.SymId}

-- P of each element
pub front_of : {X : Type 0} (P : X → Type 0) (xs ys : List X) → AllByRecursion P (xs ++ ys) → AllByRecursion P xs
front_of P [] ys h = tt
front_of P (x ∷ xs) ys h = (h.0, front_of P xs ys h.1)

pub back_of : {X : Type 0} (P : X → Type 0) (xs ys : List X) → AllByRecursion P (xs ++ ys) → AllByRecursion P ys
back_of P [] ys h = h
back_of P (x ∷ xs) ys h = back_of P xs ys h.1

either_same : {X Z : Type 0} (F G : Option X → Z) (x : X) (b c : Bool) (r q : Option X) → b ≡ c → F (Some x) ≡ G (Some x) → F r ≡ G q → F (cond b (Some x) r) ≡ G (cond c (Some x) q)
either_same F G x true true r q e s t = s
either_same F G x false false r q e s t = t
either_same F G x true false r q e s t = absurd (true≢false e)
either_same F G x false true r q e s t = absurd (true≢false (sym e))

module _ {X Z : Type 0} (Q : X → Type 0) where
  pub map_alike : (f g : X → Z) → ((x : X) → Q x → f x ≡ g x) → (xs : List X) → AllByRecursion Q xs → map f xs ≡ map g xs
  map_alike f g each [] h = refl
  map_alike f g each (x ∷ xs) h =
      let e = each x h.0 in
      let r = map_alike f g each xs h.1 in
      cc

  -- what is made of the first that passes
  pub found_alike : (p q : X → Bool) (F G : Option X → Z) → F None ≡ G None → ((x : X) → Q x → p x ≡ q x) →
      ((x : X) → Q x → F (Some x) ≡ G (Some x)) → (xs : List X) → AllByRecursion Q xs → F (find p xs) ≡ G (find q xs)
  found_alike p q F G none test each [] h = none
  found_alike p q F G none test each (x ∷ xs) h =
      either_same F G x (p x) (q x) (find p xs) (find q xs) (test x h.0) (each x h.0) (found_alike p q F G none test each xs h.1)

abbrev numbered : ℕ → SymId
numbered n = record { 0 = n }

-- the same number is the same symbol
pub same_symbol-true : (a b : SymId) → same_symbol a b ≡ true → a ≡ b
same_symbol-true a b e = ap numbered (eqb-true a.0 b.0 e)

pub same_symbol_itself : (a : SymId) → same_symbol a a ≡ true
same_symbol_itself a = eq-eqb a.0 a.0 refl
