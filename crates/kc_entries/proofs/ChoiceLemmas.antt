-- How many choices open before a place.
use Rattle.std.proofs.{Common.{Bool, List, ap, arith, cond, filter, inl, inr, length, map, suc, sym, true, zero, ℕ, ◌+◌, ◌<◌, ◌∙◌, ◌≡◌, ◌≤◌}, lemmas.List.{Sums.length-filter, length-map}}
use Rattle.std.specs.{List.count_by, Prelude.◌⊎◌}
use Rattle.kc_language.specs.declared.statements.Block.TheVariants as block
use Rattle.kc_language.specs.{Expansion.numbers, Statements.Numbered, Symbols.{ChoiceFacts, choice_facts, choice_number, of_block}}
use Rattle.kc_entries.proofs.{MemberLemmas.below_or_past, PlaceLemmas.count_next}

-- so many choices before a place, and more after one that opens there

fewer_step : (p : ℕ → Bool) (i n : ℕ) → (i < n) ⊎ (n ≤ i) → i < suc n → p i ≡ true → (i < n → count_by p (numbers i) < count_by p (numbers n)) → count_by p (numbers i) < count_by p (numbers (suc n))
fewer_step p i n (inl below) h e before =
    let more = count_next p n in
    let fewer = before below in
    omega arith
fewer_step p i n (inr past) h e before =
    let same : i ≡ n = omega arith in
    let more : count_by p (numbers (suc n)) ≡ count_by p (numbers n) + 1 = count_next p n ∙ ap (λ (b : Bool). count_by p (numbers n) + cond b 1 0) (sym (ap p same) ∙ e) in
    let equal : count_by p (numbers i) ≡ count_by p (numbers n) = ap (λ (k : ℕ). count_by p (numbers k)) same in
    omega arith

pub fewer_before : (p : ℕ → Bool) (i n : ℕ) → i < n → p i ≡ true → count_by p (numbers i) < count_by p (numbers n)
fewer_before p i zero h e = absurd (omega arith)
fewer_before p i (suc n) h e =
    fewer_step p i n (below_or_past i n) h e (λ below. fewer_before p i n below e)

module _ (ss : List Numbered) where
  abbrev pub choices_before : ℕ → List ChoiceFacts
  choices_before i = map (choice_facts ss) (filter (of_block ss block.Choice) (numbers i))

  pub so_many : (i : ℕ) → length (choices_before i) ≡ choice_number ss i
  so_many i =
      length-map (filter (of_block ss block.Choice) (numbers i)) (choice_facts ss) ∙ length-filter (of_block ss block.Choice) (numbers i)
