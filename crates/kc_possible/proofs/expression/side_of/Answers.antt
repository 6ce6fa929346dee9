-- A symbol whose lowest value is its highest has this one value.
use Rattle.std.proofs.Common.{ap, inl, inr, rules, subst, sym, true, ◌∙◌, ◌≡◌}
use Rattle.std.specs.Prelude.{◌⊎◌}
use Rattle.kc_expr.specs.Form.{leaf_of}
use Rattle.kc_language.specs.{Expressions.truth_of_value, declared.expressions.SymbolType.{SymbolType, TheVariants.{Bool, Tristate}}}
use Rattle.kc_possible.specs.{Sides.{IsSide, is_truth, single}, declared.expression.Side.TheVariants.Fixed}
use Rattle.kc_possible.proofs.BoundsLemmas.{is_single}
use Rattle.kc_possible.proofs.expression.side_of.Goals as goal

truth_type : (k : SymbolType) → (k ≡ Bool) ⊎ (k ≡ Tristate) → is_truth k ≡ true
truth_type k (inl e) = ap is_truth e
truth_type k (inr e) = ap is_truth e

pub returns-then-eq : goal.returns-then-eq
returns-then-eq c =
    let id = c.in-Sym.id in
    let bounds = c.symbol-bounds in
    let same : bounds.result.low ≡ bounds.result.high = search rules in
    subst (λ o. IsSide c.args.p.now (leaf_of o) Fixed) (sym c.in-Sym.is)
    (single (ap is_truth (sym c.type_of.ensures) ∙ truth_type c.type_of.result c.in-Bool.is)
    (λ known allowed. is_single bounds.result (truth_of_value (known id)) same (bounds.ensures.covers known allowed) ∙ bounds.ensures.low))
