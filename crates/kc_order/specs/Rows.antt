-- For proofs: Rows one after another in one list, and the conditions on them.
use Rattle.std.specs.Prelude.{◌≡◌, ℕ, ◌<◌, ◌≤◌, ◌-◌, zero, suc, Bool, false, List, [], ◌∷◌, length, All, slice_index, slice_index_or, take, drop}
use Rattle.kc_language.specs.Needs.{needs_in}

-- the rows of a list of numbers, given where each ends: the first begins at `from`, each other one where the row before it ends
abbrev pub rows_of : List ℕ → ℕ → List ℕ → List (List ℕ)
rows_of numbers from [] = []
rows_of numbers from (end ∷ ends) = take (end - from) (drop from numbers) ∷ rows_of numbers end ends

-- where row r begins
abbrev pub begin : ℕ → List ℕ → ℕ → ℕ
begin from ends zero = from
begin from ends (suc r) = slice_index ends r

-- the ends go up from `from`, and the last is `to`
abbrev pub AreIncreasing : ℕ → ℕ → List ℕ → Type 0
AreIncreasing from to [] = from ≡ to
AreIncreasing from to (end ∷ ends) = (from ≤ end) × AreIncreasing end to ends

-- each row holds numbers below n
abbrev pub RowsBelow : ℕ → List (List ℕ) → Type 0
RowsBelow n rows = All (λ row. All (λ t. t < n) row) rows

-- each number of each row from row n on is below the number of the row
abbrev pub NeedSmaller : ℕ → List (List ℕ) → Type 0
NeedSmaller n rows = (r : ℕ) → n ≤ r → r < length rows → All (λ t. t < r) (needs_in rows r)

-- flag s, for each s below n, is the test of s
pub record AreFlags (n : ℕ) (test : ℕ → Bool) (flags : List Bool) : Type 0 where
  pub length_is : length flags ≡ n
  pub each : (s : ℕ) → s < n → slice_index_or flags s false ≡ test s
