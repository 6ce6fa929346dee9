-- Lists of names, and what they hold.
use Rattle.std.proofs.{Common.{Bool, Contains, List, None, Some, [], ap, arith, cond, false, inl, inr, is_some, length, map, nat_lt, not, option_map, position, refl, reverse, subst, suc, sym, true, ℕ, ◌++◌, ◌+◌, ◌||◌, ◌∙◌, ◌∷◌, ◌≡◌}, lemmas.{Bool.Decides.nat_tests, List.{Elements.{Contains-append_cases, Contains-append_left, Contains-append_right}, map_push, reverse-append}}}
use Rattle.std.specs.{List.{list_any, position_or_len}, declared.{alloc.Global.Global, vec.Vec.Vec}}
use Rattle.kc_language.specs.Expressions.{symbol}

more_is : (n : ℕ) → suc n ≡ n + 1
more_is n = omega arith

below_more_is : (n : ℕ) → nat_lt 0 (n + 1) ≡ true
below_more_is n = grind (arith, nat_tests)

zero_below : (n : ℕ) → nat_lt 0 (suc n) ≡ true
zero_below n = ap (nat_lt 0) (more_is n) ∙ below_more_is n

both_more_is : (m n : ℕ) → nat_lt (1 + m) (n + 1) ≡ nat_lt m n
both_more_is m n = grind (arith, nat_tests)

both_more : (m n : ℕ) → nat_lt (1 + m) (suc n) ≡ nat_lt m n
both_more m n = ap (nat_lt (1 + m)) (more_is n) ∙ both_more_is m n

module _ {X : Type 0} where
  pub reversed_in : (xs : List X) (x : X) → Contains xs x → Contains (reverse xs) x
  reversed_in [] x h = h
  reversed_in (y ∷ ys) x h =
      subst (λ (l : List X). Contains l x) (sym (reverse-append (y ∷ []) ys))
      (elim (Contains-append_cases (y ∷ []) ys x h) [
        | inl here ↦ Contains-append_right (reverse ys) (y ∷ []) x here
        | inr there ↦ Contains-append_left (reverse ys) (y ∷ []) x (reversed_in ys x there)
      ])

  pub reversed_out : (xs : List X) (x : X) → Contains (reverse xs) x → Contains xs x
  reversed_out [] x h = h
  reversed_out (y ∷ ys) x h =
      elim (Contains-append_cases (reverse ys) (y ∷ []) x (subst (λ (l : List X). Contains l x) (reverse-append (y ∷ []) ys) h)) [
        | inl there ↦ Contains-append_right (y ∷ []) ys x (reversed_out ys x there)
        | inr here ↦ Contains-append_left (y ∷ []) ys x here
      ]

  -- a test finds a place exactly where some element passes it
  found_any : (p : X → Bool) (xs : List X) → nat_lt (position_or_len p xs) (length xs) ≡ list_any p xs
  found_any p [] = refl
  found_any p (x ∷ xs) = by (p x) (found_any p xs)
    where
      by : (b : Bool) → nat_lt (position_or_len p xs) (length xs) ≡ list_any p xs → nat_lt (cond (not b) (1 + position_or_len p xs) 0) (suc (length xs)) ≡ (b || list_any p xs)
      by true h = zero_below (length xs)
      by false h = both_more (position_or_len p xs) (length xs) ∙ h

  pub found_is : (p : X → Bool) (xs : List X) → is_some (option_map symbol (position p xs)) ≡ list_any p xs
  found_is p xs = by (nat_lt (position_or_len p xs) (length xs)) ∙ found_any p xs
    where
      by : (b : Bool) → is_some (option_map symbol (cond b (Some (position_or_len p xs)) None)) ≡ b
      by true = refl
      by false = refl

module _ {X Y : Type 0} (f : X → Y) where
  map-reverse : (xs : List X) → map f (reverse xs) ≡ reverse (map f xs)
  map-reverse [] = refl
  map-reverse (x ∷ xs) =
      ap (map f) (reverse-append (x ∷ []) xs) ∙ map_push f (reverse xs) x ∙ ap (λ l. l ++ f x ∷ []) (map-reverse xs)
      ∙ sym (reverse-append (f x ∷ []) (map f xs))

  map-append : (xs ys : List X) → map f (xs ++ ys) ≡ map f xs ++ map f ys
  map-append [] ys = refl
  map-append (x ∷ xs) ys = ap (λ l. f x ∷ l) (map-append xs ys)

  pub pushed_reversed : (xs ys : List X) → map f (xs ++ reverse ys) ≡ map f xs ++ reverse (map f ys)
  pushed_reversed xs ys = map-append xs (reverse ys) ∙ ap (λ l. map f xs ++ l) (map-reverse ys)

  pub popped_last : (xs : List X) (x : X) (all : List X) → all ≡ xs ++ x ∷ [] → map f all ≡ map f xs ++ f x ∷ []
  popped_last xs x all e = ap (map f) e ∙ map-append xs (x ∷ [])

-- names that are put behind others, turned round, as texts
pub waits_more : (old new names turned : List (Vec ℕ Global)) → new ≡ old ++ turned → turned ≡ reverse names → map (λ v. v.items) new ≡ map (λ v. v.items) old ++ reverse (map (λ v. v.items) names)
waits_more old new names turned e r = ap (map (λ (v : Vec ℕ Global). v.items)) (e ∙ ap (λ l. old ++ l) r) ∙ pushed_reversed (λ (v : Vec ℕ Global). v.items) old names
