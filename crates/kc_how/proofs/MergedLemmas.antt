-- The user's values of two inputs.
use Rattle.std.proofs.{Common.{List, None, Option, Some, [], ap, arith, get_or, length, refl, replicate, slice_set, suc, sym, take, zero, ℕ, ◌++◌, ◌+◌, ◌<◌, ◌∙◌, ◌∷◌, ◌≡◌}, lemmas.List.{length-take-le, take_more}}
use Rattle.std.specs.{Option.option_or, Prelude.slice_index_or}
use Rattle.kc_language.specs.{ConfigFile.{ArePlacesOf, Places}, Symbols.TreeFacts}
use Rattle.kc_user.specs.PartsOfConfigFile.{no_places}
use Rattle.kc_how.specs.Merged.{laid_over, merged_places}

module _ {A : Type 0} where
  -- nothing new
  pub over-nothing : (old : List (Option A)) → laid_over old [] ≡ old
  over-nothing [] = refl
  over-nothing (x ∷ old) = refl

  or-none : (y : Option A) → option_or y None ≡ y
  or-none None = refl
  or-none (Some v) = refl

  -- over nothing
  pub nothing-over : (n : ℕ) (new : List (Option A)) → length new ≡ n → laid_over (replicate n None) new ≡ new
  nothing-over n [] is = rw (sym is) refl
  nothing-over zero (y ∷ new) is = absurd (omega (arith, is))
  nothing-over (suc n) (y ∷ new) is = rw (or-none y) (ap (λ ys. y ∷ ys) (nothing-over n new (omega (arith, is))))

  pub length-over : (old new : List (Option A)) → length (laid_over old new) ≡ length old
  length-over [] new = refl
  length-over (x ∷ old) [] = refl
  length-over (x ∷ old) (y ∷ new) = ap suc (length-over old new)

  -- one place more
  over-none : (old new : List (Option A)) → laid_over old (new ++ None ∷ []) ≡ laid_over old new
  over-none [] new = refl
  over-none (x ∷ old) [] = ap (λ xs. x ∷ xs) (over-nothing old)
  over-none (x ∷ old) (y ∷ new) = ap (λ xs. option_or y x ∷ xs) (over-none old new)

  over-some : (old new : List (Option A)) (v : A) → length new < length old → laid_over old (new ++ Some v ∷ []) ≡ slice_set (laid_over old new) (length new) (Some v)
  over-some [] new v lt = absurd (omega (arith, lt))
  over-some (x ∷ old) [] v lt = ap (λ xs. Some v ∷ xs) (over-nothing old)
  over-some (x ∷ old) (y ∷ new) v lt = ap (λ xs. option_or y x ∷ xs) (over-some old new v (omega (arith, lt)))

  pub over-same : (old new : List (Option A)) (i : ℕ) → i < length new → get_or new i None ≡ None → laid_over old (take (i + 1) new) ≡ laid_over old (take i new)
  over-same old new i lt is = rw (take_more new i None lt, is) (over-none old (take i new))

  pub over-more : (old new : List (Option A)) (i : ℕ) (v : A) → i < length new → length old ≡ length new → get_or new i None ≡ Some v →
      laid_over old (take (i + 1) new) ≡ slice_set (laid_over old (take i new)) i (Some v)
  over-more old new i v lt same is =
      let n : length (take i new) ≡ i = length-take-le i new (omega (arith, lt)) in
      rw (take_more new i None lt, is) (over-some old (take i new) v (omega (arith, n, lt, same)) ∙ ap (λ k. slice_set (laid_over old (take i new)) k (Some v)) n)

-- over no values
pub over-none-yet : (tree : TreeFacts) (places : Places) → ArePlacesOf tree places → merged_places (no_places tree) places ≡ places
over-none-yet tree places are =
    ap (λ xs. let p : Places = record { symbols = xs; choices = laid_over (no_places tree).choices places.choices } in p) (nothing-over (length tree.symbols) places.symbols are.symbols)
    ∙ ap (λ xs. record places { choices = xs }) (nothing-over (length tree.choices) places.choices are.choices)

-- there are as many places as before
pub merged-are : (tree : TreeFacts) (first second : Places) → ArePlacesOf tree first → ArePlacesOf tree (merged_places first second)
merged-are tree first second are = record {
  symbols = length-over first.symbols second.symbols ∙ are.symbols;
  choices = length-over first.choices second.choices ∙ are.choices;
}
