-- This output is of another kind: the first that is of this kind comes behind it.
use Rattle.std.proofs.{Common.{Bool, List, Option, Some, ap, arith, cond, drop, false, get_or, length, option_map, string_bytes, sym, ℕ, ◌+◌, ◌<◌, ◌∙◌, ◌∷◌, ◌≡◌}, lemmas.List.at_drop_more}
use Rattle.std.specs.Prelude.{find}
use Rattle.kc_outcome.proofs.OutputLemmas.{same_output}
use Rattle.kc_outcome.specs.declared.outcome.WantedOutput.{WantedOutput}
use Rattle.kc_options.proofs.options.file_for.Goals as goal

find_skip : {X : Type 0} (test : X → Bool) (xs ys : List X) (i : ℕ) (x : X) → ys ≡ xs → i < length ys → x ≡ get_or ys i x →
    test x ≡ false → find test (drop i xs) ≡ find test (drop (i + 1) xs)
find_skip test xs ys i x same within is e =
    let there : i < length xs = omega (arith, ap length same) in
    at_drop_more (find test) xs i x there
    ∙ ap (λ y. find test (y ∷ drop (i + 1) xs)) (sym (is ∙ ap (λ ys. get_or ys i x) same))
    ∙ ap (λ b. cond b (Some x) (find test (drop (i + 1) xs))) e

pub loop-wanted-preserved : goal.loop-wanted-preserved
loop-wanted-preserved c =
    c.loop-wanted.invariant
    ∙ ap (option_map (λ (wanted : WantedOutput). string_bytes wanted.file))
    (find_skip (λ wanted. same_output c.args.kind wanted.kind) c.args.options.now.outputs.items
    c.deref-wanted-items.result.now c.loop-wanted.wanted-index c.wanted-item.result c.deref-wanted-items.ensures.value (omega arith) c.wanted-item.is
    (sym c.eq.ensures ∙ c.if-eq.false))
