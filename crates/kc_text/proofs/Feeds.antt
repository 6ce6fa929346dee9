-- The first line feed, looked for by the lanes of loads.
use Rattle.std.proofs.{Common.{List, ap, arith, drop, get_or, inl, inr, length, map, sym, ℕ, ◌+◌, ◌-◌, ◌<◌, ◌∙◌, ◌≡◌, ◌≤◌}, lemmas.{Bool.{both_ways, cases_lt}, List.{get_or-drop, length-drop}}}
use Rattle.bstr.specs.Find.{NoneBefore, Nowhere, Passes}
use Rattle.kc_text.proofs.{Loads.{fails_before, few, none_passes, passes_there}, Physicals.lf}
use lib.Count.{count_trailing_zeros}
use lib.Lanes.{chunk, mask_l}

-- the lanes from place `at` on, with no line feed before it
module _ (rest : List ℕ) (at mask : ℕ) (room : at + 16 ≤ length rest) (bits : mask ≡ mask_l (map lf (chunk at 16 rest))) (none : Nowhere (Passes lf rest) 0 at) where
  pub first_in_lanes : 0 < mask
      → NoneBefore (Passes lf rest) 0 (length rest) (at + count_trailing_zeros 64 mask) × Passes lf rest (at + count_trailing_zeros 64 mask)
  first_in_lanes some = (
    record {
      low = omega arith;
      high = omega (arith, room, few lf rest at mask room bits some);
      before = λ k low below p.
          elim (cases_lt k at) [ inl left ↦ none k low left p | inr right ↦ both_ways _ (fails_before lf rest at mask room bits some k right below) p ];
    },
    passes_there lf rest at mask room bits some,
  )

  pub none_in_lanes : mask ≡ 0 → Nowhere (Passes lf rest) 0 (at + 16)
  none_in_lanes empty k low below p =
      elim (cases_lt k at) [ inl left ↦ none k low left p | inr right ↦ both_ways _ (none_passes lf rest at mask room bits empty k right below) p ]

-- the rest from place `at` on, with no line feed before it
module _ (rest : List ℕ) (at : ℕ) (within : at ≤ length rest) (none : Nowhere (Passes lf rest) 0 at) where
  back : (k : ℕ) → at ≤ k → get_or (drop at rest) (k - at) 0 ≡ get_or rest k 0
  back k le = let e : at + (k - at) ≡ k = omega arith in get_or-drop at rest (k - at) 0 ∙ ap (λ j. get_or rest j 0) e

  pub first_after : (n : ℕ) → NoneBefore (Passes lf (drop at rest)) 0 (length (drop at rest)) n → Passes lf (drop at rest) n
      → NoneBefore (Passes lf rest) 0 (length rest) (at + n) × Passes lf rest (at + n)
  first_after n h here = (
    record {
      low = omega arith;
      high = omega (arith, h.high, length-drop at rest);
      before = λ k low below p.
          elim (cases_lt k at) [ inl left ↦ none k low left p | inr right ↦ h.before (k - at) (omega arith) (omega arith) (ap lf (back k right) ∙ p) ];
    },
    ap lf (sym (get_or-drop at rest n 0)) ∙ here,
  )

  pub none_after : Nowhere (Passes lf (drop at rest)) 0 (length (drop at rest)) → Nowhere (Passes lf rest) 0 (length rest)
  none_after h k low below p =
      elim (cases_lt k at) [ inl left ↦ none k low left p | inr right ↦ h (k - at) (omega arith) (omega (arith, length-drop at rest)) (ap lf (back k right) ∙ p) ]
