-- How many physical lines a file has.
use Rattle.std.proofs.{Common.{List, [], ap, arith, cond, get_or, inl, inr, length, refl, suc, sym, ℕ, ◌+◌, ◌-◌, ◌<◌, ◌∙◌, ◌∷◌, ◌≡◌, ◌≢◌}, lemmas.{Bool.{cases_Bool, ne_eqb}, List.{Splits.{join_with_byte-slice_split, length-slice_split}, Sums.sum_by-cons}}}
use Rattle.std.specs.{List.{join_with_byte, onto_first, slice_split}, Prelude.count_by}
use Rattle.kc_language.specs.Lines.{lines_of_parts, physical_lines}
use Rattle.kc_text.proofs.Physicals.{lf, parts_cons}

-- a byte before the first part changes nothing, where that is not an empty last one
length-lines_onto : (b : ℕ) (parts : List (List ℕ)) → 0 < length parts → parts ≢ [] ∷ [] → length (lines_of_parts (onto_first b parts)) ≡ length (lines_of_parts parts)
length-lines_onto b [] some other = absurd (omega arith)
length-lines_onto b ([] ∷ []) some other = absurd (other refl)
length-lines_onto b ((x ∷ xs) ∷ []) some other = rw (ne_eqb (length (x ∷ xs)) 0 (λ e. omega arith), ne_eqb (length (b ∷ x ∷ xs)) 0 (λ e. omega arith)) refl
length-lines_onto b (x ∷ y ∷ more) some other = refl

split_some : (c : ℕ) (bs : List ℕ) → slice_split lf (c ∷ bs) ≢ [] ∷ []
split_some c bs e =
    let none : c ∷ bs ≡ [] = sym (join_with_byte-slice_split 10 (c ∷ bs)) ∙ ap (join_with_byte 10) e in
    absurd cc

-- 1 where bytes follow the last line feed
abbrev unfinished : List ℕ → ℕ
unfinished [] = 0
unfinished (b ∷ []) = cond (lf b) 0 1
unfinished (b ∷ c ∷ bs) = unfinished (c ∷ bs)

length-lines_of_split : (bs : List ℕ) → length (lines_of_parts (slice_split lf bs)) ≡ count_by lf bs + unfinished bs
length-lines_of_split [] = refl
length-lines_of_split (b ∷ []) = elim (cases_Bool (lf b)) [ inl e ↦ rw e refl | inr e ↦ rw e refl ]
length-lines_of_split (b ∷ c ∷ bs) =
    let more = length-lines_of_split (c ∷ bs) in
    let parts = length-slice_split lf (c ∷ bs) in
    let counted = sum_by-cons (λ y. cond (lf y) 1 0) b (c ∷ bs) in
    elim (cases_Bool (lf b)) [
      | inl e ↦
          let whole = ap length (parts_cons [] (slice_split lf (c ∷ bs)) (omega arith)) in
          rw e (omega (arith, whole, more, rw e at counted))
      | inr e ↦
          let whole = length-lines_onto b (slice_split lf (c ∷ bs)) (omega arith) (split_some c bs) in
          rw e (omega (arith, whole, more, rw e at counted))
    ]

last_place : (b c : ℕ) (bs : List ℕ) → length (b ∷ c ∷ bs) - 1 ≡ suc (length (c ∷ bs) - 1)
last_place b c bs = omega arith

unfinished_ended : (bs : List ℕ) → 0 < length bs → get_or bs (length bs - 1) 0 ≡ 10 → unfinished bs ≡ 0
unfinished_ended [] some last = absurd (omega arith)
unfinished_ended (b ∷ []) some last = rw last refl
unfinished_ended (b ∷ c ∷ bs) some last = unfinished_ended (c ∷ bs) (omega arith) (rw (last_place b c bs) at last)

unfinished_open : (bs : List ℕ) → 0 < length bs → get_or bs (length bs - 1) 0 ≢ 10 → unfinished bs ≡ 1
unfinished_open [] some last = absurd (omega arith)
unfinished_open (b ∷ []) some last = rw (ne_eqb b 10 last) refl
unfinished_open (b ∷ c ∷ bs) some last = unfinished_open (c ∷ bs) (omega arith) (rw (last_place b c bs) at last)

pub lines_of_none : (file : List ℕ) → length file ≡ 0 → count_by lf file ≡ length (physical_lines file)
unfolding physical_lines
lines_of_none [] none = refl
lines_of_none (b ∷ bs) none = absurd (omega arith)

pub lines_of_ended : (file : List ℕ) → 0 < length file → get_or file (length file - 1) 0 ≡ 10 → count_by lf file ≡ length (physical_lines file)
unfolding physical_lines
lines_of_ended file some last = omega (arith, length-lines_of_split file, unfinished_ended file some last)

pub lines_of_open : (file : List ℕ) → 0 < length file → get_or file (length file - 1) 0 ≢ 10 → count_by lf file + 1 ≡ length (physical_lines file)
unfolding physical_lines
lines_of_open file some last = omega (arith, length-lines_of_split file, unfinished_open file some last)
