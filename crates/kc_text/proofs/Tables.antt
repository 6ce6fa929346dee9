-- A map of 256 bytes is held against a definition at each byte, by computing.
use Rattle.std.proofs.{Common.{Bool, List, arith, false, get_or, inl, inr, nat_eq, not, refl, suc, true, zero, ℕ, ◌&&◌, ◌<◌, ◌≡◌, ◌≢◌}, lemmas.Bool.cases_eq}
use Rattle.std.specs.{Bool.beq, Prelude.IsTrue}

-- the two tests agree below n
unfoldable pub agree_below : (ℕ → Bool) → (ℕ → Bool) → ℕ → Bool
agree_below f g zero = true
agree_below f g (suc n) = beq (f n) (g n) && agree_below f g n

both_of : (x y rest : Bool) → (beq x y && rest) ≡ true → (x ≡ y) × (rest ≡ true)
both_of true true rest h = (refl, h)
both_of true false rest h = cc
both_of false true rest h = cc
both_of false false rest h = (refl, h)

agree_at : (f g : ℕ → Bool) (n : ℕ) → agree_below f g n ≡ true → (b : ℕ) → b < n → f b ≡ g b
unfolding agree_below
agree_at f g zero h b lt = absurd (omega arith)
agree_at f g (suc n) h b lt =
    let both = both_of (f n) (g n) (agree_below f g n) h in
    elim (cases_eq b n) [ inl same ↦ rw same both.0 | inr other ↦ agree_at f g n both.1 b (omega arith) ]

-- no comma stands at the byte's place in the map
abbrev pub has_sign : List ℕ → ℕ → Bool
has_sign map b = not (nat_eq (get_or map b 0) 44)

module _ (map : List ℕ) (p : ℕ → Bool) (b : ℕ) where
  pub from_map : b < 256 → agree_below (has_sign map) p 256 ≡ true → has_sign map b ≡ p b
  from_map lt h = agree_at (has_sign map) p 256 h b lt

  pub sign_passes : b < 256 → get_or map b 0 ≢ 44 → agree_below (has_sign map) p 256 ≡ true → IsTrue (p b)
  sign_passes lt other h = grind (arith, from_map lt h)

  pub comma_stops : b < 256 → get_or map b 0 ≡ 44 → agree_below (has_sign map) p 256 ≡ true → p b ≡ false
  comma_stops lt comma h = grind (arith, from_map lt h)
