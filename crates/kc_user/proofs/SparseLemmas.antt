-- Where the values of a sparse vector stand, as places are filled and emptied.
use Rattle.std.proofs.{Common.{List, None, Option, Some, [], add-suc, add-zero, ap, arith, inl, inr, length, map, refl, replicate, slice_get, slice_set, suc, sym, zero, ℕ, ◌++◌, ◌+◌, ◌<◌, ◌∙◌, ◌∷◌, ◌≡◌, ◌≢◌, ◌≤◌}, Math.ListN.get_or-map, lemmas.{Bool.cases_eq, List.{ext_get_or, get_or-set_other, get_or-set_same, get_or_default, length-map, length-set, map-set}}}
use Rattle.std.specs.Prelude.{slice_index_or}
use Rattle.kc_user.specs.Sparse.{AreOwn, numbered}
use Rattle.kc_user.proofs.UserLemmas.{map-replicate}

module _ {T : Type 0} where
  pub slice_get-set_same : (xs : List T) (i : ℕ) (x : T) → i < length xs → slice_get (slice_set xs i x) i ≡ Some x
  slice_get-set_same [] i x below = absurd (omega (arith, below))
  slice_get-set_same (y ∷ ys) zero x below = refl
  slice_get-set_same (y ∷ ys) (suc i) x below = slice_get-set_same ys i x (omega (arith, below))

  pub slice_get-set_other : (xs : List T) (i j : ℕ) (x : T) → j ≢ i → slice_get (slice_set xs i x) j ≡ slice_get xs j
  slice_get-set_other [] i j x ne = refl
  slice_get-set_other (y ∷ ys) zero zero x ne = absurd (ne refl)
  slice_get-set_other (y ∷ ys) zero (suc j) x ne = refl
  slice_get-set_other (y ∷ ys) (suc i) zero x ne = refl
  slice_get-set_other (y ∷ ys) (suc i) (suc j) x ne = slice_get-set_other ys i j x (λ e. ne (ap suc e))

  pub slice_get-last : (xs : List T) (x : T) → slice_get (xs ++ x ∷ []) (length xs) ≡ Some x
  slice_get-last [] x = refl
  slice_get-last (y ∷ ys) x = slice_get-last ys x

  pub slice_get-front : (xs ys : List T) (i : ℕ) → i < length xs → slice_get (xs ++ ys) i ≡ slice_get xs i
  slice_get-front [] ys i below = absurd (omega (arith, below))
  slice_get-front (x ∷ xs) ys zero below = refl
  slice_get-front (x ∷ xs) ys (suc i) below = slice_get-front xs ys i (omega (arith, below))

  -- what stands in a place
  at_place : (values : List T) (numbers : List ℕ) (i : ℕ) → slice_index_or (map (numbered values) numbers) i None ≡ numbered values (slice_index_or numbers i 0)
  at_place values numbers i = get_or-map (numbered values) numbers i 0

  -- a place that is seen has a number
  pub set_there : (values : List T) (numbers : List ℕ) (seen : List (Option T)) (place : ℕ) → map (numbered values) numbers ≡ seen → place < length seen → place < length numbers
  set_there values numbers seen place is there = omega (arith, there, ap length (sym is) ∙ length-map numbers (numbered values))

  pub its_number : (values : List T) (numbers : List ℕ) (seen : List (Option T)) (place number : ℕ) → map (numbered values) numbers ≡ seen → place < length seen →
      number ≡ slice_index_or numbers place number → number ≡ slice_index_or numbers place 0
  its_number values numbers seen place number is there e = e ∙ get_or_default numbers place number 0 (set_there values numbers seen place is there)

  -- all places are empty
  pub nothing_there : (values : List T) (numbers : List ℕ) (count : ℕ) → numbers ≡ replicate count 0 → map (numbered values) numbers ≡ replicate count None
  nothing_there values numbers count are = rw are (map-replicate (numbered values) count 0)

  -- a value more leaves the others where they are
  one_more : (values : List T) (value : T) (number : ℕ) → number ≤ length values → numbered (values ++ value ∷ []) number ≡ numbered values number
  one_more values value zero within = refl
  one_more values value (suc n) within = slice_get-front values (value ∷ []) n (omega (arith, within))

  stay : (values : List T) (value : T) (numbers : List ℕ) → AreOwn numbers (length values) → map (numbered (values ++ value ∷ [])) numbers ≡ map (numbered values) numbers
  stay values value numbers are =
      ext_get_or None _ _ (length-map numbers (numbered (values ++ value ∷ [])) ∙ sym (length-map numbers (numbered values)))
      (λ i below. at_place (values ++ value ∷ []) numbers i ∙ one_more values value (slice_index_or numbers i 0) (are.within i) ∙ sym (at_place values numbers i))

  -- a place is filled with a value that is put behind the others
  pub filled : (values : List T) (value : T) (numbers : List ℕ) (place : ℕ) → AreOwn numbers (length values) →
      map (numbered (values ++ value ∷ [])) (slice_set numbers place (length values + 1)) ≡ slice_set (map (numbered values) numbers) place (Some value)
  filled values value numbers place are =
      let new = numbered (values ++ value ∷ []) in
      let last : new (length values + 1) ≡ Some value = ap new (add-suc (length values) 0 ∙ ap suc (add-zero (length values))) ∙ slice_get-last values value in
      map-set new numbers place (length values + 1)
      ∙ ap (λ xs. slice_set xs place (new (length values + 1))) (stay values value numbers are)
      ∙ ap (slice_set (map (numbered values) numbers) place) last

  -- another value stands where the value of a place stood
  other_value : (values : List T) (value : T) (n m : ℕ) → m ≢ suc n → numbered (slice_set values n value) m ≡ numbered values m
  other_value values value n zero ne = refl
  other_value values value n (suc m) ne = slice_get-set_other values n m value (λ e. ne (ap suc e))

  its_value : (values : List T) (value : T) (n m : ℕ) → m ≡ suc n → m ≤ length values → numbered (slice_set values n value) m ≡ Some value
  its_value values value n m is within =
      ap (numbered (slice_set values n value)) is ∙ slice_get-set_same values n value (omega (arith, is, within))

  pub replaced : (values : List T) (value : T) (numbers : List ℕ) (place n : ℕ) → AreOwn numbers (length values) → place < length numbers →
      slice_index_or numbers place 0 ≡ suc n →
      map (numbered (slice_set values n value)) numbers ≡ slice_set (map (numbered values) numbers) place (Some value)
  replaced values value numbers place n are there is =
      let new = numbered (slice_set values n value) in
      let old = map (numbered values) numbers in
      let long : place < length old = omega (arith, there, length-map numbers (numbered values)) in
      ext_get_or None _ _ (length-map numbers new ∙ sym (length-set old place (Some value) ∙ length-map numbers (numbered values)))
      (λ i below. at_place (slice_set values n value) numbers i ∙ elim (cases_eq i place) [
        | inl same ↦
            its_value values value n (slice_index_or numbers i 0) (ap (λ k. slice_index_or numbers k 0) same ∙ is) (are.within i)
            ∙ sym (ap (λ k. slice_index_or (slice_set old place (Some value)) k None) same ∙ get_or-set_same old place (Some value) None long)
        | inr other ↦
            other_value values value n (slice_index_or numbers i 0) (λ e. other (are.own i place n e is))
            ∙ sym (get_or-set_other old place i (Some value) None other ∙ at_place values numbers i)
      ])

-- ---- numbers are each place's own

-- an emptied place has no number
pub emptied_own : (numbers : List ℕ) (count place : ℕ) → AreOwn numbers count → place < length numbers → AreOwn (slice_set numbers place 0) count
emptied_own numbers count place are there =
    let new = slice_set numbers place 0 in
    let other : (i n : ℕ) → slice_index_or new i 0 ≡ suc n → slice_index_or numbers i 0 ≡ suc n = λ i n e. elim (cases_eq i place) [
      | inl same ↦ absurd (omega (arith, sym e ∙ ap (λ k. slice_index_or new k 0) same ∙ get_or-set_same numbers place 0 0 there))
      | inr ne ↦ sym (get_or-set_other numbers place i 0 0 ne) ∙ e
    ] in
    record {
      within = λ i. elim (cases_eq i place) [
        | inl same ↦ omega (arith, ap (λ k. slice_index_or new k 0) same ∙ get_or-set_same numbers place 0 0 there)
        | inr ne ↦ omega (arith, get_or-set_other numbers place i 0 0 ne, are.within i)
      ];
      own = λ i j n e f. are.own i j n (other i n e) (other j n f);
    }

-- a filled place has the number of the value that is put behind the others
pub filled_own : (numbers : List ℕ) (count place : ℕ) → AreOwn numbers count → place < length numbers → AreOwn (slice_set numbers place (count + 1)) (count + 1)
filled_own numbers count place are there =
    let new = slice_set numbers place (count + 1) in
    let here : slice_index_or new place 0 ≡ count + 1 = get_or-set_same numbers place (count + 1) 0 there in
    let at : (i : ℕ) → i ≡ place → slice_index_or new i 0 ≡ count + 1 = λ i same. ap (λ k. slice_index_or new k 0) same ∙ here in
    let off : (i : ℕ) → i ≢ place → slice_index_or new i 0 ≡ slice_index_or numbers i 0 = λ i ne. get_or-set_other numbers place i (count + 1) 0 ne in
    record {
      within = λ i. elim (cases_eq i place) [
        | inl same ↦ omega (arith, at i same)
        | inr ne ↦ omega (arith, off i ne, are.within i)
      ];
      own = λ i j n e f. elim (cases_eq i place) [
        | inl si ↦ elim (cases_eq j place) [
          | inl sj ↦ si ∙ sym sj
          | inr nj ↦ absurd (omega (arith, e, f, at i si, off j nj, are.within j))
        ]
        | inr ni ↦ elim (cases_eq j place) [
          | inl sj ↦ absurd (omega (arith, e, f, at j sj, off i ni, are.within i))
          | inr nj ↦ are.own i j n (sym (off i ni) ∙ e) (sym (off j nj) ∙ f)
        ]
      ];
    }
