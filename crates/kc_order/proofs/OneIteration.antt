-- One iteration over all symbols, one equation after another.
use Rattle.std.proofs.{Common.{List, ap, arith, false, inl, inr, subst, suc, sym, zero, ℕ, ◌+◌, ◌<◌, ◌∙◌, ◌≡◌, ◌≤◌}, lemmas.Bool.{both_ways, cases_Bool, cases_eq, true≢false}}
use Rattle.kc_order.specs.{Needs.NeedsBelow, PartsOfNeeds.NothingUnordered, Solution.{IsIteration, IsUpdate, ReadsNeeds}}
use Rattle.kc_language.specs.{Needs.unordered_after, Values.Solves}
use Rattle.kc_order.proofs.{Stays.was_unordered, Unique.fails_each}

-- what is not unordered stays so
pub stays_free : (needs : ℕ → List ℕ) (k s : ℕ) → unordered_after needs k s ≡ false → unordered_after needs (suc k) s ≡ false
stays_free needs k s e =
    elim (cases_Bool (unordered_after needs (suc k) s)) [
      | inl t ↦ absurd (both_ways (unordered_after needs k s) e (was_unordered needs k s t))
      | inr f ↦ f
    ]

-- the equations of the symbols that are not unordered after k iterations hold
abbrev pub SolvesOrdered : {A : Type 0} → ℕ → (ℕ → List ℕ) → (ℕ → (ℕ → A) → A) → ℕ → (ℕ → A) → Type 0
SolvesOrdered n needs rhs k V = (s : ℕ) → s < n → unordered_after needs k s ≡ false → V s ≡ rhs s V

-- the first i equations hold where their symbols are not unordered after one more iteration
pub record HoldsUpTo {A : Type 0} (n : ℕ) (needs : ℕ → List ℕ) (rhs : ℕ → (ℕ → A) → A) (k i : ℕ) (V : ℕ → A) : Type 0 where
  pub before : SolvesOrdered n needs rhs k V
  pub now : (s : ℕ) → s < i → s < n → unordered_after needs (suc k) s ≡ false → V s ≡ rhs s V

module _ {A : Type 0} (n : ℕ) (needs : ℕ → List ℕ) (rhs : ℕ → (ℕ → A) → A) (below : NeedsBelow n needs) (reads : ReadsNeeds needs rhs) where
  -- the update of i changes nothing that is not unordered
  unchanged : (k i : ℕ) (V W : ℕ → A) → SolvesOrdered n needs rhs k V → IsUpdate V W i (rhs i V) → (t : ℕ) → t < n → unordered_after needs k t ≡ false → W t ≡ V t
  unchanged k i V W h u t l e =
      elim (cases_eq t i) [
        | inl same ↦ ap W same ∙ u.here ∙ sym (ap (λ s. rhs s V) same) ∙ sym (h t l e)
        | inr other ↦ u.others t other
      ]

  same_rhs : (k i : ℕ) (V W : ℕ → A) → SolvesOrdered n needs rhs k V → IsUpdate V W i (rhs i V) → (s : ℕ) → s < n → unordered_after needs (suc k) s ≡ false → rhs s W ≡ rhs s V
  same_rhs k i V W h u s l e =
      reads s W V (λ t c. unchanged k i V W h u t (below s t l c) (fails_each (unordered_after needs k) (needs s) t e c))

  pub one_more : (k i : ℕ) (V W : ℕ → A) → HoldsUpTo n needs rhs k i V → IsUpdate V W i (rhs i V) → HoldsUpTo n needs rhs k (i + 1) W
  one_more k i V W h u = record {
    before = λ s l e. unchanged k i V W h.before u s l e ∙ h.before s l e ∙ sym (same_rhs k i V W h.before u s l (stays_free needs k s e));
    now = λ s up l e.
        elim (cases_eq s i) [
          | inl same ↦ ap W same ∙ u.here ∙ sym (ap (λ s. rhs s V) same) ∙ sym (same_rhs k i V W h.before u s l e)
          | inr other ↦ u.others s other ∙ h.now s (omega arith) l e ∙ sym (same_rhs k i V W h.before u s l e)
        ];
  }

  pub starts : (k : ℕ) (V : ℕ → A) → SolvesOrdered n needs rhs k V → HoldsUpTo n needs rhs k 0 V
  starts k V h = record { before = h; now = λ s up. absurd (omega arith) }

  pub ends : (k : ℕ) (V : ℕ → A) → HoldsUpTo n needs rhs k n V → SolvesOrdered n needs rhs (suc k) V
  ends k V h s l e = h.now s l l e

-- after one more iteration the equations hold of the symbols that it frees
module _ {A : Type 0} (n : ℕ) (needs : ℕ → List ℕ) (rhs : ℕ → (ℕ → A) → A) (below : NeedsBelow n needs) (reads : ReadsNeeds needs rhs) where
  as_far : (k : ℕ) (before after : ℕ → A) → SolvesOrdered n needs rhs k before → (iteration : IsIteration n rhs before after) → (i : ℕ) → i ≤ n → HoldsUpTo n needs rhs k i (iteration.left i)
  as_far k before after h iteration zero l = starts n needs rhs below reads k (iteration.left 0) (subst (SolvesOrdered n needs rhs k) (sym iteration.begins) h)
  as_far k before after h iteration (suc i) l =
      let e : i + 1 ≡ suc i = omega arith in
      subst (λ j. HoldsUpTo n needs rhs k j (iteration.left j)) e
      (one_more n needs rhs below reads k i (iteration.left i) (iteration.left (i + 1)) (as_far k before after h iteration i (omega arith)) (iteration.computes i (omega arith)))

  pub iteration_solves : (k : ℕ) (before after : ℕ → A) → SolvesOrdered n needs rhs k before → IsIteration n rhs before after → SolvesOrdered n needs rhs (suc k) after
  iteration_solves k before after h iteration =
      subst (SolvesOrdered n needs rhs (suc k)) iteration.ends (ends n needs rhs below reads k (iteration.left n) (as_far k before after h iteration n (omega arith)))

  after_iterations : (values : ℕ → ℕ → A) → ((k : ℕ) → k < n → IsIteration n rhs (values k) (values (k + 1))) → (k : ℕ) → k ≤ n → SolvesOrdered n needs rhs k (values k)
  after_iterations values iterations zero l = λ s b e. absurd (true≢false e)
  after_iterations values iterations (suc k) l =
      let e : k + 1 ≡ suc k = omega arith in
      let iteration = subst (λ j. IsIteration n rhs (values k) (values j)) e (iterations k (omega arith)) in
      iteration_solves k (values k) (values (suc k)) (after_iterations values iterations k (omega arith)) iteration

  pub iterations_solve : NothingUnordered n needs → (values : ℕ → ℕ → A) → ((k : ℕ) → k < n → IsIteration n rhs (values k) (values (k + 1))) → Solves n rhs (values n)
  iterations_solve free values iterations s l = after_iterations values iterations n (omega arith) s l (free s l)

-- where no symbol is unordered, all equations hold after as many iterations as there are symbols
pub all_hold : {A : Type 0} (n k : ℕ) (needs : ℕ → List ℕ) (rhs : ℕ → (ℕ → A) → A) (V : ℕ → A) → k ≡ n → NothingUnordered n needs → SolvesOrdered n needs rhs k V → Solves n rhs V
all_hold n k needs rhs V e free h s l = h s l (rw e (free s l))
