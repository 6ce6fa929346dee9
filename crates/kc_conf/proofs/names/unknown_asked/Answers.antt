-- This name is that of a symbol: the first that is not comes behind it.
use Rattle.std.proofs.Common.{◌≡◌, ◌+◌, ◌<◌, ◌∙◌, ℕ, Bool, false, cond, List, ◌∷◌, Some, length, get_or, drop, map, not, is_some, string_bytes, ap, sym, arith}
use Rattle.std.specs.Prelude.{find}
use Rattle.std.proofs.lemmas.List.{at_drop_more}
use Rattle.kc_outcome.specs.Explanations.{asked_symbol}
use Rattle.kc_conf.proofs.names.unknown_asked.Goals as goal

find_skip : {X : Type 0} (test : List ℕ → Bool) (f : X → List ℕ) (xs ys : List X) (i : ℕ) (x : X) → ys ≡ xs → i < length ys → x ≡ get_or ys i x →
    test (f x) ≡ false → find test (map f (drop i xs)) ≡ find test (map f (drop (i + 1) xs))
find_skip test f xs ys i x same within is e =
    let there : i < length xs = omega (arith, ap length same) in
    at_drop_more (λ ys. find test (map f ys)) xs i x there
    ∙ ap (λ y. find test (map f (y ∷ drop (i + 1) xs))) (sym (is ∙ ap (λ ys. get_or ys i x) same))
    ∙ ap (λ b. cond b (Some (f x)) (find test (map f (drop (i + 1) xs)))) e

pub loop-asked-preserved : goal.loop-asked-preserved
loop-asked-preserved c =
    c.loop-asked.invariant
    ∙ find_skip (λ name. not (is_some (asked_symbol c.args.tree.now c.args.options.now.prefix.prefix name))) string_bytes c.args.options.now.explain.items
    c.deref-asked-items.result.now c.loop-asked.asked-index c.asked-item.result c.deref-asked-items.ensures.value (omega arith) c.asked-item.is
    (ap not (ap is_some (sym (c.asked_symbol.ensures ∙ ap (asked_symbol c.args.tree.now c.args.options.now.prefix.prefix) c.as_bytes-name.ensures.value))
    ∙ c.is_none.ensures ∙ ap not c.if-is_none.false))
