-- Two solutions agree at each symbol that is not unordered.
use Rattle.std.proofs.{Common.{Bool, List, false, inl, inr, suc, sym, zero, ℕ, ◌<◌, ◌∙◌, ◌≡◌}, lemmas.{Bool.{both_ways, cases_Bool, true≢false}, List.Folds.list_any_at}}
use Rattle.std.specs.List.{Contains, list_any}
use Rattle.kc_order.specs.{Needs.NeedsBelow, PartsOfNeeds.NothingUnordered, Solution.ReadsNeeds}
use Rattle.kc_language.specs.{Needs.unordered_after, Values.{IsOnlySolution, Solves}}

-- what no element passes, an element fails
pub fails_each : {X : Type 0} (p : X → Bool) (xs : List X) (x : X) → list_any p xs ≡ false → Contains xs x → p x ≡ false
fails_each p xs x e c =
    elim (cases_Bool (p x)) [
      | inl t ↦ absurd (both_ways (list_any p xs) e (list_any_at p xs c.0 x c.1 (rw c.2 t)))
      | inr f ↦ f
    ]

-- two solutions agree at each symbol that is not unordered after k iterations
pub agree_after : {A : Type 0} (n : ℕ) (needs : ℕ → List ℕ) (rhs : ℕ → (ℕ → A) → A) → NeedsBelow n needs → ReadsNeeds needs rhs → (V W : ℕ → A) → Solves n rhs V → Solves n rhs W →
    (k s : ℕ) → s < n → unordered_after needs k s ≡ false → V s ≡ W s
agree_after n needs rhs below reads V W v w zero s h e = absurd (true≢false e)
agree_after n needs rhs below reads V W v w (suc k) s h e =
    v s h ∙ reads s V W (λ t i. agree_after n needs rhs below reads V W v w k t (below s t h i) (fails_each (unordered_after needs k) (needs s) t e i)) ∙ sym (w s h)

pub only : {A : Type 0} (n : ℕ) (needs : ℕ → List ℕ) (rhs : ℕ → (ℕ → A) → A) → NeedsBelow n needs → ReadsNeeds needs rhs → NothingUnordered n needs →
    (V : ℕ → A) → Solves n rhs V → IsOnlySolution n rhs V
only n needs rhs below reads free V v W w s h = agree_after n needs rhs below reads W V w v n s h (free s h)
