-- Rows that stand in one list.
use Rattle.std.proofs.{Common.{All, List, [], ap, arith, drop, get_or, length, length-drop, refl, subst, suc, sym, take, zero, ℕ, ◌++◌, ◌+◌, ◌-◌, ◌<◌, ◌∙◌, ◌∷◌, ◌≡◌, ◌≤◌}, lemmas.List.{Elements.{All-append, All-cons, All-drop, All-head, All-nil, All-tail, All-take}, drop-append-le, drop-drop, drop_all, drop_at, get_or_read, take-append-drop, take-append-le, take_all}}
use Rattle.kc_language.specs.Needs.{needs_in}
use Rattle.kc_order.specs.Rows.{AreIncreasing, RowsBelow, begin, rows_of}

-- no end is past the last
up_within : (from to : ℕ) (ends : List ℕ) → AreIncreasing from to ends → from ≤ to
up_within from to [] up = omega arith
up_within from to (end ∷ ends) up = omega (arith, up.0, up_within end to ends up.1)

-- a row ends where it begins or later, and within the list
pub record IsWithin (begins ends to : ℕ) : Type 0 where
  pub goes_up : begins ≤ ends
  pub within : ends ≤ to

pub row_within : (from to : ℕ) (ends : List ℕ) (r : ℕ) → AreIncreasing from to ends → r < length ends → IsWithin (begin from ends r) (get_or ends r 0) to
row_within from to [] r up l = absurd (omega arith)
row_within from to (end ∷ ends) zero up l = record { goes_up = up.0; within = up_within end to ends up.1 }
row_within from to (end ∷ ends) (suc zero) up l = row_within end to ends zero up.1 (omega arith)
row_within from to (end ∷ ends) (suc (suc r)) up l = row_within end to ends (suc r) up.1 (omega arith)

pub row_is : (numbers : List ℕ) (from : ℕ) (ends : List ℕ) (r : ℕ) → r < length ends →
    needs_in (rows_of numbers from ends) r ≡ take (get_or ends r 0 - begin from ends r) (drop (begin from ends r) numbers)
row_is numbers from [] r l = absurd (omega arith)
row_is numbers from (end ∷ ends) zero l = refl
row_is numbers from (end ∷ ends) (suc zero) l = row_is numbers end ends zero (omega arith)
row_is numbers from (end ∷ ends) (suc (suc r)) l = row_is numbers end ends (suc r) (omega arith)

pub rows_len : (numbers : List ℕ) (from : ℕ) (ends : List ℕ) → length (rows_of numbers from ends) ≡ length ends
rows_len numbers from [] = refl
rows_len numbers from (end ∷ ends) = ap suc (rows_len numbers end ends)

-- one more row, behind the others
pub rows_push : (numbers row : List ℕ) (from to : ℕ) (ends : List ℕ) → AreIncreasing from (length numbers) ends → to ≡ length numbers + length row →
    rows_of (numbers ++ row) from (ends ++ to ∷ []) ≡ rows_of numbers from ends ++ row ∷ []
rows_push numbers row from to [] up e =
    let rest : drop from (numbers ++ row) ≡ row = drop_at numbers row from (sym up) in
    let all : take (to - from) row ≡ row = take_all (to - from) row (omega arith) in
    ap (λ x. take (to - from) x ∷ []) rest ∙ ap (λ (x : List ℕ). x ∷ []) all
rows_push numbers row from to (end ∷ ends) up e =
    let within : end ≤ length numbers = up_within end (length numbers) ends up.1 in
    let from_in : from ≤ length numbers = omega (arith, up.0) in
    let first : drop from (numbers ++ row) ≡ drop from numbers ++ row = drop-append-le from numbers row from_in in
    let same : take (end - from) (drop from numbers ++ row) ≡ take (end - from) (drop from numbers) =
    take-append-le (end - from) (drop from numbers) row (omega (arith, length-drop from numbers)) in
    let rest = rows_push numbers row end to ends up.1 e in
    ap (λ x. take (end - from) x ∷ rows_of (numbers ++ row) end (ends ++ to ∷ [])) first
    ∙ ap (λ x. x ∷ rows_of (numbers ++ row) end (ends ++ to ∷ [])) same
    ∙ ap (λ x. take (end - from) (drop from numbers) ∷ x) rest

pub up_push : (from last to : ℕ) (ends : List ℕ) → AreIncreasing from last ends → last ≤ to → AreIncreasing from to (ends ++ to ∷ [])
up_push from last to [] up l = (omega arith, refl)
up_push from last to (end ∷ ends) up l = (up.0, up_push end last to ends up.1 l)

-- rows are below what all numbers of the list are
pub below_rows : (n : ℕ) (numbers : List ℕ) (from : ℕ) (ends : List ℕ) → All (λ t. t < n) numbers → RowsBelow n (rows_of numbers from ends)
below_rows n numbers from [] all = All-nil (λ row. All (λ t. t < n) row)
below_rows n numbers from (end ∷ ends) all =
    All-cons (λ row. All (λ t. t < n) row) (take (end - from) (drop from numbers)) (rows_of numbers end ends)
    (All-take (λ t. t < n) (end - from) (drop from numbers) (All-drop (λ t. t < n) from numbers all))
    (below_rows n numbers end ends all)

below_from : (n : ℕ) (numbers : List ℕ) (from : ℕ) (ends : List ℕ) → AreIncreasing from (length numbers) ends → RowsBelow n (rows_of numbers from ends) → All (λ t. t < n) (drop from numbers)
below_from n numbers from [] up below = rw (drop_all from numbers (omega arith)) (All-nil (λ t. t < n))
below_from n numbers from (end ∷ ends) up below =
    let row = take (end - from) (drop from numbers) in
    let here : All (λ t. t < n) row = All-head (λ x. All (λ t. t < n) x) row (rows_of numbers end ends) below in
    let rest = below_from n numbers end ends up.1 (All-tail (λ x. All (λ t. t < n) x) row (rows_of numbers end ends) below) in
    let e : from + (end - from) ≡ end = omega (arith, up.0) in
    let is : drop (end - from) (drop from numbers) ≡ drop end numbers = drop-drop (end - from) from numbers ∙ ap (λ k. drop k numbers) e in
    subst (All (λ t. t < n)) (take-append-drop (end - from) (drop from numbers))
    (All-append (λ t. t < n) row (drop (end - from) (drop from numbers)) here (subst (All (λ t. t < n)) (sym is) rest))

-- and all numbers of the list are below what the rows are
pub below_numbers : (n : ℕ) (numbers ends : List ℕ) → AreIncreasing 0 (length numbers) ends → RowsBelow n (rows_of numbers 0 ends) → All (λ t. t < n) numbers
below_numbers n numbers ends up below = below_from n numbers 0 ends up below

-- a part of the list that is a row
pub record IsRow (numbers : List ℕ) (rows : List (List ℕ)) (r begins ends : ℕ) : Type 0 where
  pub goes_up : begins ≤ ends
  pub within : ends ≤ length numbers
  pub holds : take (ends - begins) (drop begins numbers) ≡ needs_in rows r

pub is_row : (numbers ends : List ℕ) (rows : List (List ℕ)) (r b e : ℕ) → AreIncreasing 0 (length numbers) ends → rows_of numbers 0 ends ≡ rows → r < length rows → b ≡ begin 0 ends r →
    e ≡ get_or ends r e → IsRow numbers rows r b e
is_row numbers ends rows r b e up view there begins_at ends_at =
    let l : r < length ends = omega (arith, there, ap length view, rows_len numbers 0 ends) in
    let end : e ≡ get_or ends r 0 = get_or_read ends r e l ends_at 0 in
    let within = row_within 0 (length numbers) ends r up l in
    record {
      goes_up = omega (arith, within.goes_up, begins_at, end);
      within = omega (arith, within.within, end);
      holds = ap (λ k. take (k - b) (drop b numbers)) end ∙ ap (λ k. take (get_or ends r 0 - k) (drop k numbers)) begins_at ∙ sym (row_is numbers 0 ends r l) ∙ ap (λ x. needs_in x r) view;
    }
