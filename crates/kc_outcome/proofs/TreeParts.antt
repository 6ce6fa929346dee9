-- The symbols and the choices in the tree of these lines.
use Rattle.std.proofs.Common.{◌≡◌, refl, ap, sym, ◌∙◌, ℕ, [], ◌∷◌, zero, suc, ◌<◌, inl, inr, length, get_or, arith, length-append}
use Rattle.std.proofs.Math.Seq.{get_or-append_seam}
use Rattle.std.proofs.lemmas.Bool.{cases_lt}
use Rattle.std.proofs.lemmas.List.{get_or_append_left}
use Rattle.std.proofs.lemmas.Option.{slice_get-get_or, slice_get-map}
use Rattle.std.proofs.Math.ListN.{length-map}
use Rattle.std.specs.Prelude.{List, Option, Some, filter, option_map, slice_get, ◌++◌}
use Rattle.kc_language.specs.{Expansion.{numbers}, Expressions.{symbol}, Statements.{Located, Numbered, statements}, Symbols.{choice_facts, facts_with, indices, of_block, symbol_facts}, Values.{choice_at, facts, name_count}, declared.{expressions.SymId.{SymId}, statements.Block.{Block}}}

numbers_length : (n : ℕ) → length (numbers n) ≡ n
numbers_length zero = refl
numbers_length (suc n) = omega (arith, length-append (numbers n) (n ∷ []), numbers_length n)

number_at : (n i : ℕ) → i < n → get_or (numbers n) i 0 ≡ i
number_at zero i h = absurd (omega (arith, h))
number_at (suc n) i h = elim (cases_lt i n) [
  | inl lt ↦ let within : i < length (numbers n) = omega (arith, lt, numbers_length n) in get_or_append_left (numbers n) (n ∷ []) 0 i within ∙ number_at n i lt
  | inr ge ↦ let same : i ≡ length (numbers n) = omega (arith, ge, h, numbers_length n) in
      ap (λ j. get_or (numbers n ++ n ∷ []) j 0) same ∙ get_or-append_seam (numbers n) n [] 0 ∙ sym (same ∙ numbers_length n)
]

pub facts_are : (names : List (List ℕ)) (lines : List (Located Numbered)) (s : SymId) → s.0 < length names →
    facts (facts_with names lines) s ≡ Some (symbol_facts (statements lines) s)
facts_are names lines s h =
    let n = length names in let said = λ (i : ℕ). symbol_facts (statements lines) (symbol i) in
    let within : s.0 < length (numbers n) = omega (arith, h, numbers_length n) in
    slice_get-map said (numbers n) s.0 ∙ ap (option_map said) (slice_get-get_or (numbers n) s.0 0 within ∙ ap Some (number_at n s.0 h))

pub symbol_count : (names : List (List ℕ)) (lines : List (Located Numbered)) → name_count (facts_with names lines) ≡ length names
symbol_count names lines = length-map (numbers (length names)) (λ i. symbol_facts (statements lines) (symbol i)) ∙ numbers_length (length names)

-- The statement that begins choice k.
abbrev pub choice_start : List Numbered → ℕ → Option ℕ
choice_start ss k = slice_get (filter (of_block ss Block.Choice) (indices ss)) k

pub choice_is : (names : List (List ℕ)) (lines : List (Located Numbered)) (k : ℕ) →
    choice_at (facts_with names lines) k ≡ option_map (choice_facts (statements lines)) (choice_start (statements lines) k)
choice_is names lines k = slice_get-map (choice_facts (statements lines)) (filter (of_block (statements lines) Block.Choice) (indices (statements lines))) k
