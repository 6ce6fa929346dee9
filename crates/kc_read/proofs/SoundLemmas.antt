-- What conditions name is there.
use Rattle.std.proofs.{Common.{Bool, List, None, Option, Some, [], ap, arith, false, filter, if◌then◌else◌, length, refl, suc, sym, take, true, zero, ℕ, ◌++◌, ◌<◌, ◌∙◌, ◌∷◌, ◌≡◌, ◌≤◌}, lemmas.List.{Elements.filter-append, append-nil}}
use Rattle.std.specs.Prelude.{option_map}
use Rattle.kc_language.specs.declared.statements.Block.TheVariants as block
use Rattle.kc_language.specs.{Expansion.{enclosing, last_of, numbers}, Statements.Numbered, Symbols.{choice_number, enclosing_choice, of_block}}
use Rattle.kc_entries.specs.{PartsOfExpansion.is_open, PartsOfSymbols.choices}
use Rattle.kc_entries.proofs.{ChoiceLemmas.{fewer_before, so_many}, EnclosingLemmas.last-snoc}

-- the last of the numbers below m that pass two tests
last_step : (p q : ℕ → Bool) (m j : ℕ) (a b : Bool) → q m ≡ a → p m ≡ b → (last_of (filter p (filter q (numbers m))) ≡ Some j → (p j ≡ true) × (j < m)) →
    last_of (filter p (filter q (numbers m)) ++ filter p (if a then m ∷ [] else [])) ≡ Some j → (p j ≡ true) × (j < suc m)
last_step p q m j false b e f before h =
    let found = before (sym (ap last_of (append-nil (filter p (filter q (numbers m))))) ∙ h) in
    (found.0, omega (arith, found.1))
last_step p q m j true false e f before h =
    let found = before (sym (ap last_of (append-nil (filter p (filter q (numbers m))))) ∙ (rw f at h)) in
    (found.0, omega (arith, found.1))
last_step p q m j true true e f before h =
    let one : Some m ≡ Some j = sym (last-snoc (filter p (filter q (numbers m))) m) ∙ (rw f at h) in
    let same : m ≡ j = cc in
    (sym (ap p same) ∙ f, omega arith)

pub last_kept : (p q : ℕ → Bool) (m j : ℕ) → last_of (filter p (filter q (numbers m))) ≡ Some j → (p j ≡ true) × (j < m)
last_kept p q zero j h = cc
last_kept p q (suc m) j h =
    let split : filter p (filter q (numbers (suc m))) ≡ filter p (filter q (numbers m)) ++ filter p (if q m then m ∷ [] else []) =
    ap (filter p) (filter-append q (numbers m) (m ∷ [])) ∙ filter-append p (filter q (numbers m)) (if q m then m ∷ [] else []) in
    last_step p q m j (q m) (p m) refl refl (last_kept p q m j) (sym (ap last_of split) ∙ h)

module _ (ss : List Numbered) where
  mode_by : (i k : ℕ) (o : Option ℕ) → length (take i ss) ≤ length ss → last_of (filter (of_block ss block.Choice) (enclosing ss i)) ≡ o →
      option_map (choice_number ss) o ≡ Some k → k < length (choices ss)
  mode_by i k None n h e = cc
  mode_by i k (Some j) n h e =
      let found = last_kept (of_block ss block.Choice) (is_open (take i ss)) (length (take i ss)) j h in
      let number : choice_number ss j ≡ k = cc in
      let few = fewer_before (of_block ss block.Choice) j (length ss) (omega (arith, found.1)) (found.0) in
      let all : length (choices ss) ≡ choice_number ss (length ss) = so_many ss (length ss) in
      omega arith

  -- the choice whose mode counts at a place is one of the choices
  pub mode_below : (i k : ℕ) → length (take i ss) ≤ length ss → enclosing_choice ss i ≡ Some k → k < length (choices ss)
  mode_below i k n e = mode_by i k (last_of (filter (of_block ss block.Choice) (enclosing ss i))) n refl e
