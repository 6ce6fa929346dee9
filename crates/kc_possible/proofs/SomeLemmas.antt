-- Some symbols of a list: the list grows by one symbol, which is kept or not.
use Rattle.std.proofs.Common.{All, List, [], ap, arith, inl, inr, refl, suc, zero, ◌++◌, ◌∷◌, ◌≡◌, ◌⊎◌}
use Rattle.kc_language.specs.declared.expressions.SymId.{SymId}
use Rattle.kc_possible.specs.Possible.{AreSomeOf}

abbrev Kept : List SymId → SymId → List SymId → Type 0
Kept some s all = (rest : List SymId) × (some ≡ s ∷ rest) × AreSomeOf rest all

pub some-left : (some all : List SymId) (s : SymId) → AreSomeOf some all → AreSomeOf some (all ++ s ∷ [])
some-left some [] s h = inl h
some-left some (t ∷ all) s h = by (λ xs k. some-left xs all s k) h
  where
    by : ((xs : List SymId) → AreSomeOf xs all → AreSomeOf xs (all ++ s ∷ [])) → AreSomeOf some all ⊎ Kept some t all → AreSomeOf some (all ++ s ∷ []) ⊎ Kept some t (all ++ s ∷ [])
    by rec (inl k) = inl (rec some k)
    by rec (inr k) = inr (k.0, k.1, rec k.0 k.2)

pub some-kept : (some all : List SymId) (s : SymId) → AreSomeOf some all → AreSomeOf (some ++ s ∷ []) (all ++ s ∷ [])
some-kept some [] s h = inr ([], ap (λ r. r ++ s ∷ []) h, refl)
some-kept some (t ∷ all) s h = by (λ xs k. some-kept xs all s k) h
  where
    by : ((xs : List SymId) → AreSomeOf xs all → AreSomeOf (xs ++ s ∷ []) (all ++ s ∷ [])) → AreSomeOf some all ⊎ Kept some t all →
        AreSomeOf (some ++ s ∷ []) (all ++ s ∷ []) ⊎ Kept (some ++ s ∷ []) t (all ++ s ∷ [])
    by rec (inl k) = inl (rec some k)
    by rec (inr k) = inr (k.0 ++ s ∷ [], ap (λ r. r ++ s ∷ []) k.1, rec k.0 k.2)

-- one symbol of which P holds
pub all-one : (P : SymId → Type 0) (s : SymId) → P s → All P (s ∷ [])
all-one P s h zero d lt = h
all-one P s h (suc k) d lt = absurd (omega (arith, lt))
