-- The place of what passes a test.
use Rattle.std.proofs.Common.{◌≡◌, ◌+◌, ◌<◌, ◌||◌, not, Bool, true, false, cond, nat_lt, List, [], ◌∷◌, length, position, refl, suc, arith}
use Rattle.std.specs.List.{list_any, position_or_len}
use Rattle.std.specs.Option.{is_some}
use Rattle.std.proofs.lemmas.Bool.Decides.{nat_tests}

module _ {X : Type 0} (p : X → Bool) where
  place-none : (xs : List X) → list_any p xs ≡ false → position_or_len p xs ≡ length xs
  place-none [] h = refl
  place-none (x ∷ xs) h = by (p x) h (place-none xs)
    where
      by : (b : Bool) → (b || list_any p xs) ≡ false → (list_any p xs ≡ false → position_or_len p xs ≡ length xs) → cond (not b) (1 + position_or_len p xs) 0 ≡ suc (length xs)
      by true e rest = absurd cc
      by false e rest = omega (arith, rest e)

  place-some : (xs : List X) → list_any p xs ≡ true → position_or_len p xs < length xs
  place-some [] h = absurd cc
  place-some (x ∷ xs) h = by (p x) h (place-some xs)
    where
      by : (b : Bool) → (b || list_any p xs) ≡ true → (list_any p xs ≡ true → position_or_len p xs < length xs) → cond (not b) (1 + position_or_len p xs) 0 < suc (length xs)
      by true e rest = omega arith
      by false e rest = omega (arith, rest e)

  -- there is a place where one passes
  pub position-any : (xs : List X) → is_some (position p xs) ≡ list_any p xs
  position-any xs = by (list_any p xs) refl
    where
      by : (b : Bool) → list_any p xs ≡ b → is_some (position p xs) ≡ b
      by true e = let less : nat_lt (position_or_len p xs) (length xs) ≡ true = (let h = place-some xs e in grind (arith, nat_tests)) in rw less refl
      by false e = let less : nat_lt (position_or_len p xs) (length xs) ≡ false = (let h = place-none xs e in grind (arith, nat_tests)) in rw less refl
