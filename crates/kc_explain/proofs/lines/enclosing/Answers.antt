-- One block more, and all.
use Rattle.std.proofs.Common.{refl, sym, ◌∙◌}
use Rattle.kc_explain.proofs.WalkLemmas.{leaves-begins, leaves-ends, leaves-goes, leaves-lower}
use Rattle.kc_explain.proofs.lines.enclosing.Goals as goal

pub around-init : goal.around-init
around-init c = leaves-begins c.args.layout.now c.args.entry.0 c.outer-at.result _ c.outer-at.ensures c.new-all.ensures.items

pub around-smaller : goal.around-smaller
around-smaller c =
    leaves-lower c.args.layout.now _ c.around.at.0 _ c.around.all.items (sym c.is_some.ensures ∙ c.around-test.true) c.around.invariant c.outer-at-in-around.ensures

pub around-preserved : goal.around-preserved
around-preserved c =
    leaves-goes c.args.layout.now _ c.around.at.0 _ c.around.at c.around.all.items _ (sym c.is_some.ensures ∙ c.around-test.true) refl c.around.invariant
    c.outer-at-in-around.ensures c.in_ok-push.ensures.items

pub returns : goal.returns
returns c =
    leaves-ends c.args.layout.now _ c.around.at.0 c.around.all.items _ (sym c.is_some.ensures ∙ c.around-test.false) c.around.invariant c.reverse.ensures.items
