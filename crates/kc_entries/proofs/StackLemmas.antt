-- Stacks: the last of a list, and of what a function gives for a list.
use Rattle.std.proofs.Common.{◌≡◌, ℕ, List, [], ◌∷◌, ◌++◌, map, Some, refl, ap}
use Rattle.kc_language.specs.Expansion.{last_of}
use Rattle.kc_entries.proofs.EnclosingLemmas.{front}

pub no_snoc : {X : Type 0} (xs : List X) (x : X) → xs ++ x ∷ [] ≡ [] → ⊥
no_snoc [] x h = cc
no_snoc (y ∷ xs) x h = cc

pub front_snoc : (xs : List ℕ) (k : ℕ) → front (xs ++ k ∷ []) ≡ xs
front_snoc [] k = refl
front_snoc (x ∷ []) k = refl
front_snoc (x ∷ y ∷ xs) k = ap (λ l. x ∷ l) (front_snoc (y ∷ xs) k)

-- the last of what a function gives
pub record Split {Y : Type 0} (ks : List ℕ) (f : ℕ → Y) (outside : List Y) (x : Y) : Type 0 where
  pub k : ℕ
  pub last : last_of ks ≡ Some k
  pub before : outside ≡ map f (front ks)
  pub here : x ≡ f k

pub split_last : {Y : Type 0} (ks : List ℕ) (f : ℕ → Y) (outside : List Y) (x : Y) → outside ++ x ∷ [] ≡ map f ks → Split ks f outside x
split_last [] f outside x h = absurd (no_snoc outside x h)
split_last (k ∷ []) f [] x h = let e : x ≡ f k = cc in record { k = k; last = refl; before = refl; here = e }
split_last (k ∷ []) f (y ∷ ys) x h = let e : ys ++ x ∷ [] ≡ [] = cc in absurd (no_snoc ys x e)
split_last (k ∷ l ∷ ks) f [] x h = absurd cc
split_last (k ∷ l ∷ ks) f (y ∷ ys) x h =
    let tail : ys ++ x ∷ [] ≡ map f (l ∷ ks) = cc in
    let head : y ≡ f k = cc in
    let rest = split_last (l ∷ ks) f ys x tail in
    record { k = rest.k; last = rest.last; before = rw head (ap (λ t. f k ∷ t) rest.before); here = rest.here }
