-- The bytes of a load that pass a test, told by the bits of its mask.
use Rattle.std.proofs.{Common.{Bool, List, ap, arith, bit_or, cond, false, get_or, length, map, refl, true, w16, ℕ, ◌%◌, ◌+◌, ◌<◌, ◌^◌, ◌∙◌, ◌≡◌, ◌≤◌}, lemmas.{List.length-map, Nat.Bits.bit_at-trailing_zeros, Simd.{length-chunk, map-map, mask_l-lt, mask_l-mod, none_from_empty_mask, run_in_chunk_fails, run_in_chunk_stops, trailing_mask_l, zip2_of_maps}}}
use Rattle.std.specs.{List.prefix_len, Prelude.{not, ◌||◌}}
use lib.Count.{count_trailing_zeros}
use lib.Lanes.{chunk, mask_l, top, zip2}

-- a lane of a test: all its bits are set, or none
abbrev pub lane : Bool → ℕ
lane b = cond b 255 0

lane_or : (a b : Bool) → bit_or (lane a) (lane b) ≡ lane (a || b)
lane_or true true = refl
lane_or true false = refl
lane_or false true = refl
lane_or false false = refl

top_lane : (b : Bool) → top 7 (lane b) ≡ b
top_lane true = refl
top_lane false = refl

module _ (bytes : List ℕ) where
  -- the lanes of two tests, joined
  pub either : (p q : ℕ → Bool) {a b : List ℕ} → a ≡ map (λ x. lane (p x)) bytes → b ≡ map (λ x. lane (q x)) bytes → zip2 bit_or a b ≡ map (λ x. lane (p x || q x)) bytes
  either p q e f = zip2_of_maps bit_or (λ x. lane (p x)) (λ x. lane (q x)) bytes e f ∙ (λ i. map (λ x. lane_or (p x) (q x) i) bytes)

  -- the mask of the lanes of a test
  pub mask_is : (p : ℕ → Bool) {a : List ℕ} → length bytes ≤ 64 → a ≡ map (λ x. lane (p x)) bytes → mask_l (map (top 7) a) % 2 ^ 64 ≡ mask_l (map p bytes)
  mask_is p few e =
      ap (λ l. mask_l l % 2 ^ 64) (ap (map (top 7)) e ∙ map-map (top 7) (λ x. lane (p x)) bytes ∙ (λ i. map (λ x. top_lane (p x) i) bytes))
      ∙ mask_l-mod (map p bytes) 64 (omega (arith, length-map bytes p))

-- a load of 16 bytes from place `at` on, with a mask of those that pass p
module _ (p : ℕ → Bool) (text : List ℕ) (at mask : ℕ) (room : at + 16 ≤ length text) (bits : mask ≡ mask_l (map p (chunk at 16 text))) where
  long : length (chunk at 16 text) ≡ 16
  long = length-chunk at 16 text room

  counted : (k : ℕ) → 16 ≤ k → 0 < mask → count_trailing_zeros k mask ≡ prefix_len (λ x. not (p x)) (chunk at 16 text)
  counted k le some = rw bits (trailing_mask_l p k (chunk at 16 text) (omega (arith, long)) (rw bits at some))

  small : mask < 2 ^ 16
  small = let ms = map p (chunk at 16 text) in let n : length ms ≡ 16 = length-map (chunk at 16 text) p ∙ long in rw bits (rw n at (mask_l-lt ms))

  module _ (some : 0 < mask) where
    pub few : count_trailing_zeros 64 mask < 16
    few = omega (arith, counted 64 (omega arith) some, counted 16 (omega arith) some, (bit_at-trailing_zeros w16 mask some small).0)

    -- the lowest bit is that of the first byte that passes
    pub fails_before : (k : ℕ) → at ≤ k → k < at + count_trailing_zeros 64 mask → p (get_or text k 0) ≡ false
    fails_before = run_in_chunk_fails p text at 16 (count_trailing_zeros 64 mask) 0 room (counted 64 (omega arith) some)

    pub passes_there : p (get_or text (at + count_trailing_zeros 64 mask) 0) ≡ true
    passes_there = run_in_chunk_stops p text at 16 (count_trailing_zeros 64 mask) 0 room (counted 64 (omega arith) some) few

  -- without a bit no byte passes
  pub none_passes : mask ≡ 0 → (k : ℕ) → at ≤ k → k < at + 16 → p (get_or text k 0) ≡ false
  none_passes empty = none_from_empty_mask p text at 16 0 room (rw bits at empty)
