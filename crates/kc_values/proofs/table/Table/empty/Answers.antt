use Rattle.std.proofs.Common.{List, None, Option, Some, ap, length, refl, replicate, rules, slice_set, suc, sym, zero, ℕ, ◌∙◌, ◌∷◌, ◌≡◌}
use Rattle.std.specs.Prelude.{slice_index_or}
use Rattle.kc_language.specs.declared.expressions.Tri.{TheVariants.Y, Tri}
use Rattle.kc_values.specs.Computed.{AreWorth, rank}
use Rattle.kc_values.proofs.table.Table.empty.Goals as goal

-- no empty place holds a value
none_at : (n i : ℕ) → slice_index_or {A = Option Tri} (replicate n None) i None ≡ None
none_at zero i = refl
none_at (suc n) zero = refl
none_at (suc n) (suc i) = none_at n i

empty_are : (worth : ℕ → Tri) (n : ℕ) (places : List (Option Tri)) → places ≡ replicate n None → AreWorth worth places
empty_are worth n places e i t h = let none = none_at n i in absurd cc

-- the first place may be y
first_by : (worth : ℕ → Tri) (n i : ℕ) (t : Tri) → worth 0 ≡ Y → slice_index_or (Some Y ∷ replicate n None) i None ≡ Some t → rank t ≡ rank (worth i)
first_by worth n zero t y h = let same : Y ≡ t = cc in ap rank (sym same ∙ sym y)
first_by worth n (suc i) t y h = let none = none_at n i in absurd cc

first_is : (worth : ℕ → Tri) (n : ℕ) (places : List (Option Tri)) → worth 0 ≡ Y → places ≡ replicate (suc n) None → AreWorth worth (slice_set places 0 (Some Y))
first_is worth n places y e i t h = first_by worth n i t y (sym (ap (λ r. slice_index_or (slice_set r 0 (Some Y)) i None) e) ∙ h)

pub invariant_of-result-clause-contexts_computed : goal.invariant_of-result-clause-contexts_computed
invariant_of-result-clause-contexts_computed c = first_is _ (length c.args.laid.now.layout.now.places.items) c.in_ok-contexts.contexts.items refl (search rules)

pub invariant_of-result-clause-visibles_computed : goal.invariant_of-result-clause-visibles_computed
invariant_of-result-clause-visibles_computed c = empty_are _ (suc (length c.args.laid.now.layout.now.visibles.items)) c.in_ok-visibles.visibles.items (search rules)

pub invariant_of-result-clause-dependencies_computed : goal.invariant_of-result-clause-dependencies_computed
invariant_of-result-clause-dependencies_computed c = empty_are _ (length c.args.laid.now.layout.now.choices.items) c.in_ok-dependencies.dependencies.items (search rules)
