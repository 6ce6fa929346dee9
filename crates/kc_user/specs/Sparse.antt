-- Trusted: The entries of a sparse list.
use Rattle.std.specs.Prelude.{◌≡◌, ◌≤◌, ℕ, zero, suc, List, Option, None, slice_get, slice_index_or}

-- the value of a number, counted from 1; none for 0
abbrev pub numbered : {T : Type 0} → List T → ℕ → Option T
numbered values zero = None
numbered values (suc n) = slice_get values n

-- each number belongs to one of `count` values, and no two entries have the same value
pub record AreOwn (numbers : List ℕ) (count : ℕ) : Type 0 where
  pub within : (i : ℕ) → slice_index_or numbers i 0 ≤ count
  pub own : (i j n : ℕ) → slice_index_or numbers i 0 ≡ suc n → slice_index_or numbers j 0 ≡ suc n → i ≡ j
