-- Keeping the places of what differs restores, and none of them can go.
use Rattle.std.proofs.{Common.{Bool, List, None, Option, ap, cond, inl, inr, sym, ℕ, ◌∙◌}, lemmas.Bool.cases_Bool}
use Rattle.kc_order.specs.{Minimal.{KeepsWhatDiffers, NothingCanGo, Restores, equations, kept}, Needs.NeedsBelow, PartsOfNeeds.NothingUnordered, Solution.ReadsNeeds}
use Rattle.kc_language.specs.Values.{Solves}
use Rattle.kc_order.proofs.Unique.{only}

module _ {A Place G : Type 0} (n : ℕ) (needs : ℕ → List ℕ) (place : ℕ → Place) (rhs : ℕ → Option G → (ℕ → A) → A) (below : NeedsBelow n needs)
    (reads : (given : Place → Option G) → ReadsNeeds needs (equations place rhs given)) (lines : Place → Option G) (V : ℕ → A) (keep : Place → Bool) where
  pub solves_kept : KeepsWhatDiffers n place rhs lines V keep → Solves n (equations place rhs (kept keep lines)) V
  solves_kept m s l =
      elim (cases_Bool (keep (place s))) [
        | inl t ↦ m.given s l t ∙ sym (ap (λ b. rhs s (cond b (lines (place s)) None) V) t)
        | inr f ↦ m.same s l f ∙ sym (ap (λ b. rhs s (cond b (lines (place s)) None) V) f)
      ]

  pub restores : NothingUnordered n needs → KeepsWhatDiffers n place rhs lines V keep → Restores n place rhs lines V keep
  restores free m = record {
    solves = solves_kept m;
    only = only n needs (equations place rhs (kept keep lines)) below (reads (kept keep lines)) free V (solves_kept m);
  }

  pub nothing_can_go : KeepsWhatDiffers n place rhs lines V keep → NothingCanGo n place rhs lines V keep
  nothing_can_go m stay p on off W w same =
      let o = m.other p on in
      let s = o.0 in
      let gone = ap stay o.2 ∙ off in
      o.3
      (sym (same s o.1) ∙ w s o.1 ∙ ap (λ b. rhs s (cond b (cond (keep (place s)) (lines (place s)) None) None) W) gone
      ∙ reads (λ _. None) s W V (λ t c. same t (below s t o.1 c)))
