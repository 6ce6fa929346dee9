-- Symbols in an order, and the marks that say which.
use Rattle.std.proofs.{Common.{Bool, List, [], ap, arith, false, inl, inr, length, refl, suc, sym, true, zero, ℕ, ◌++◌, ◌<◌, ◌==◌, ◌||◌, ◌∙◌, ◌∷◌, ◌≡◌, ◌≢◌}, Math.ListN.set, lemmas.{Bool.{cases_eq, eq-eqb, ne_eqb}, List.Folds.list_any-append}}
use Rattle.std.specs.List.{list_any}
use Rattle.kc_language.specs.declared.expressions.SymId.{SymId}
use Rattle.kc_expr.specs.DistinctSymbols.{is_marked}

is_marked-set_same : (xs : List Bool) (i : ℕ) (v : Bool) → i < length xs → is_marked (set xs i v) i ≡ v
is_marked-set_same [] i v h = absurd (omega (arith, h))
is_marked-set_same (x ∷ xs) zero v h = refl
is_marked-set_same (x ∷ xs) (suc i) v h = is_marked-set_same xs i v (omega (arith, h))

is_marked-set_other : (xs : List Bool) (i k : ℕ) (v : Bool) → k ≢ i → is_marked (set xs i v) k ≡ is_marked xs k
is_marked-set_other [] i k v h = refl
is_marked-set_other (x ∷ xs) zero zero v h = absurd (h refl)
is_marked-set_other (x ∷ xs) zero (suc k) v h = refl
is_marked-set_other (x ∷ xs) (suc i) zero v h = refl
is_marked-set_other (x ∷ xs) (suc i) (suc k) v h = is_marked-set_other xs i k v (λ e. h (ap suc e))

-- what the marks of an order say
abbrev pub Says : List SymId → List Bool → Type 0
Says ids marks = (i : ℕ) → is_marked marks i ≡ list_any (λ s. i == s.0) ids

either_true : (a : Bool) → (a || (true || false)) ≡ true
either_true true = refl
either_true false = refl

either_false : (a : Bool) → (a || (false || false)) ≡ a
either_false true = refl
either_false false = refl

-- what they say once one more symbol is marked
pub says_added : (ids : List SymId) (marks : List Bool) (id : SymId) → Says ids marks → id.0 < length marks → Says (ids ++ id ∷ []) (set marks id.0 true)
says_added ids marks id h there i = elim (cases_eq i id.0) [
  | inl e ↦
      ap (is_marked (set marks id.0 true)) e
      ∙ is_marked-set_same marks id.0 true there
      ∙ sym (either_true (list_any (λ s. i == s.0) ids))
      ∙ sym (list_any-append (λ s. i == s.0) ids (id ∷ []) ∙ ap (λ (b : Bool). list_any (λ s. i == s.0) ids || (b || false)) (eq-eqb i id.0 e))
  | inr ne ↦
      is_marked-set_other marks id.0 i true ne
      ∙ h i
      ∙ sym (either_false (list_any (λ s. i == s.0) ids))
      ∙ sym (list_any-append (λ s. i == s.0) ids (id ∷ []) ∙ ap (λ (b : Bool). list_any (λ s. i == s.0) ids || (b || false)) (ne_eqb i id.0 ne))
]
