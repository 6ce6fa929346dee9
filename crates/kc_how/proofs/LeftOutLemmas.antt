-- The lines of a fragment that are left when one of them is left out.
use Rattle.std.proofs.{Common.{List, arith, drop, false, inl, inr, length, refl, subst, sym, take, ℕ, ◌++◌, ◌+◌, ◌-◌, ◌<◌, ◌≡◌, ◌⊎◌}, lemmas.{Bool.cases_eq, List.{drop-map, take-map, take_rest}}}
use Rattle.std.specs.declared.{alloc.Global.Global, vec.Vec.Vec}
use Rattle.kc_how.specs.{Fragments.{EndsIn, lines_in}, declared.question.Question.Question}

-- one line more can be left out
pub one-more-needed : (q : Question) (lines : List (Vec ℕ Global)) (n : ℕ) →
    ((j : ℕ) → j < n → EndsIn q false (take j (lines_in lines) ++ drop (j + 1) (lines_in lines))) →
    EndsIn q false (lines_in (take n lines) ++ lines_in (take (length lines - (n + 1)) (drop (n + 1) lines))) →
    (j : ℕ) → j < n + 1 → EndsIn q false (take j (lines_in lines) ++ drop (j + 1) (lines_in lines))
one-more-needed q lines n before here j lt = elim (cases_eq j n) [
  | inl same ↦
      let of_line : Vec ℕ Global → List ℕ = λ line. line.items in
      let e : lines_in (take n lines) ++ lines_in (take (length lines - (n + 1)) (drop (n + 1) lines)) ≡ take n (lines_in lines) ++ drop (n + 1) (lines_in lines) =
      rw (take_rest lines (n + 1), sym (take-map of_line n lines), sym (drop-map of_line (n + 1) lines)) refl in
      subst (λ k. EndsIn q false (take k (lines_in lines) ++ drop (k + 1) (lines_in lines))) (sym same) (subst (λ ls. EndsIn q false ls) e here)
  | inr other ↦ before j (omega (arith, lt, other))
]
