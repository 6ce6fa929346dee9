use Rattle.std.proofs.Common.{List, None, Option, Some, ap, length, refl, replicate, suc, sym, zero, ℕ, ◌∙◌, ◌∷◌, ◌≡◌}
use Rattle.std.specs.Prelude.{slice_index_or}
use Rattle.kc_language.specs.declared.expressions.Tri.{TheVariants.Y, Tri}
use Rattle.kc_values.specs.Computed.{AreWorth, rank}
use Rattle.kc_solve.proofs.ComputeSteps.{empty_at}
use Rattle.kc_solve.proofs.renewing.table_from.Goals as goal

empty_are : (worth : ℕ → Tri) (n : ℕ) (places : List (Option Tri)) → places ≡ replicate n None → AreWorth worth places
empty_are worth n places e i t h = absurd (empty_at n i t (sym (ap (λ ps. slice_index_or ps i None) e) ∙ h))

-- the first place may be y
first_by : (worth : ℕ → Tri) (n i : ℕ) (t : Tri) → worth 0 ≡ Y → slice_index_or (Some Y ∷ replicate n None) i None ≡ Some t → rank t ≡ rank (worth i)
first_by worth n zero t y h = let same : Y ≡ t = cc in ap rank (sym same ∙ sym y)
first_by worth n (suc i) t y h = absurd (empty_at n i t h)

first_is : (worth : ℕ → Tri) (n : ℕ) (places : List (Option Tri)) → worth 0 ≡ Y → places ≡ Some Y ∷ replicate n None → AreWorth worth places
first_is worth n places y e i t h = first_by worth n i t y (sym (ap (λ ps. slice_index_or ps i None) e) ∙ h)

pub invariant_of-table : goal.invariant_of-table
invariant_of-table c =
    let t = c.in_ok-table.table in
    let l = c.args.laid.now.layout.now in
    let e = c.in_ok-table.ensures in
    record {
      laid = t.laid;
      formed = t.formed;
      contexts_computed = first_is _ (length l.places.items) t.contexts.items refl e.contexts;
      visibles_computed = empty_are _ (suc (length l.visibles.items)) t.visibles.items e.visibles;
      dependencies_computed = empty_are _ (length l.choices.items) t.dependencies.items e.dependencies;
    }
