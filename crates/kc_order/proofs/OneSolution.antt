-- A solution by iterations in which each equation reads the values of the iteration before.
use Rattle.std.proofs.{Common.{List, false, suc, sym, zero, ℕ, ◌<◌, ◌≡◌}, lemmas.Bool.true≢false}
use Rattle.kc_order.specs.{Needs.NeedsBelow, PartsOfNeeds.NothingUnordered, Solution.{HasOneSolution, ReadsNeeds}}
use Rattle.kc_language.specs.{Needs.unordered_after, Values.Solves}
use Rattle.kc_order.proofs.Unique.{fails_each, only}

-- the values after k iterations
values_after : {A : Type 0} → A → (ℕ → (ℕ → A) → A) → ℕ → ℕ → A
values_after a rhs zero s = a
values_after a rhs (suc k) s = rhs s (values_after a rhs k)

-- what is not unordered after k iterations keeps its value
keeps_value : {A : Type 0} (a : A) (n : ℕ) (needs : ℕ → List ℕ) (rhs : ℕ → (ℕ → A) → A) → NeedsBelow n needs → ReadsNeeds needs rhs → (k s : ℕ) → s < n →
    unordered_after needs k s ≡ false → values_after a rhs (suc k) s ≡ values_after a rhs k s
unfolding values_after
keeps_value a n needs rhs below reads zero s l e = absurd (true≢false e)
keeps_value a n needs rhs below reads (suc k) s l e =
    reads s (values_after a rhs (suc k)) (values_after a rhs k) (λ t c. keeps_value a n needs rhs below reads k t (below s t l c) (fails_each (unordered_after needs k) (needs s) t e c))

pub exists : {A : Type 0} (a : A) (n : ℕ) (needs : ℕ → List ℕ) (rhs : ℕ → (ℕ → A) → A) → NeedsBelow n needs → ReadsNeeds needs rhs → NothingUnordered n needs → HasOneSolution n rhs
unfolding values_after
exists a n needs rhs below reads free =
    let solves : Solves n rhs (values_after a rhs n) = λ s l. sym (keeps_value a n needs rhs below reads n s l (free s l)) in
    (values_after a rhs n, solves, only n needs rhs below reads free (values_after a rhs n) solves)
