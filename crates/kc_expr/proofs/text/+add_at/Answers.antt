-- The steps of the loops of `add_at`.
use Rattle.std.proofs.{Common.{Some, ap, ◌++◌, ◌∙◌}, lemmas.Result.on_ok_weaker}
use Rattle.kc_expr.specs.{Form.form_of, declared.expression.Parts.Parts}
use Rattle.kc_language.specs.{ExpressionTexts.text_at, declared.expressions.Connective.TheVariants.{And, Or}}
use Rattle.kc_expr.proofs.ExpressionTexts.{begun, closing, ended, one_more, text_of_all, text_of_any}
use Rattle.kc_expr.proofs.text.+add_at.Goals as goal

pub loop-part-init : goal.loop-part-init
loop-part-init t c =
    begun c.args.names.now And c.is_and-needed.result c.deref-in-All.result.now.first c.deref-in-All-2.result.now.second c.deref-part-items.result.now
    c.args.text.now.items c.add_if.new.text.items c.add_at-in-All.new.text.items c.extend_from_slice-in-All.new.self.items c.add_at-in-All-2.new.text.items _
    c.in_ok-add_if-in-All.ensures c.in_ok-add_at-in-All.ensures (c.in_ok-extend_from_slice-in-All).ensures.items c.in_ok-add_at-in-All-2.ensures
    (text_of_all c.args.names.now c.args.place c.in-All.parts c.args.e.now c.is_and-needed.result c.in-All.is c.is_and-needed.ensures c.deref-in-All.result.now c.deref-in-All-2.result.now
    c.deref-part-items.result.now c.deref-in-All.ensures c.deref-in-All-2.ensures
    (c.deref-part-items.ensures.value ∙ ap (λ (p : Parts). p.rest.items) c.deref-in-All-3.ensures))

pub loop-part-preserved : goal.loop-part-preserved
loop-part-preserved t c =
    one_more c.args.names.now And c.deref-part-items.result.now c.loop-part.part-index c.part-item.result c.loop-part.text.items c.add_at-in-loop-part.new.text.items
    _ (closing c.is_and-needed.result) c.loop-part-test.true c.part-item.is
    (c.in_ok-add_at-in-All-3.ensures ∙ ap (λ x. x ++ text_at c.args.names.now (Some And) (form_of c.part-item.result)) (c.in_ok-extend_from_slice-in-All-2).ensures.items)
    c.loop-part.invariant

pub returns-after-loop-part : goal.returns-after-loop-part
returns-after-loop-part t c =
    on_ok_weaker _ (ended c.args.names.now And c.deref-part-items.result.now c.loop-part.part-index c.loop-part.text.items _ (closing c.is_and-needed.result) _
    c.loop-part-test.false c.loop-part.invariant) c.add_if-in-All.ensures

pub loop-part-2-init : goal.loop-part-2-init
loop-part-2-init t c =
    begun c.args.names.now Or c.is_some-needed.result c.deref-in-Any.result.now.first c.deref-in-Any-2.result.now.second c.deref-part-items-in-Any.result.now
    c.args.text.now.items c.add_if-in-Any.new.text.items c.add_at-in-Any.new.text.items c.extend_from_slice-in-Any.new.self.items c.add_at-in-Any-2.new.text.items _
    c.in_ok-add_if-in-Any.ensures c.in_ok-add_at-in-Any.ensures (c.in_ok-extend_from_slice-in-Any).ensures.items c.in_ok-add_at-in-Any-2.ensures
    (text_of_any c.args.names.now c.args.place c.in-Any.parts c.args.e.now c.is_some-needed.result c.in-Any.is c.is_some-needed.ensures c.deref-in-Any.result.now c.deref-in-Any-2.result.now
    c.deref-part-items-in-Any.result.now c.deref-in-Any.ensures c.deref-in-Any-2.ensures
    (c.deref-part-items-in-Any.ensures.value ∙ ap (λ (p : Parts). p.rest.items) c.deref-in-Any-3.ensures))

pub loop-part-2-preserved : goal.loop-part-2-preserved
loop-part-2-preserved t c =
    one_more c.args.names.now Or c.deref-part-items-in-Any.result.now c.loop-part-2.part-index c.part-item-in-loop-part-2.result c.loop-part-2.text.items
    c.add_at-in-loop-part-2.new.text.items _ (closing c.is_some-needed.result) c.loop-part-2-test.true c.part-item-in-loop-part-2.is
    (c.in_ok-add_at-in-Any-3.ensures ∙ ap (λ x. x ++ text_at c.args.names.now (Some Or) (form_of c.part-item-in-loop-part-2.result)) (c.in_ok-extend_from_slice-in-Any-2).ensures.items)
    c.loop-part-2.invariant

pub returns-after-loop-part-2 : goal.returns-after-loop-part-2
returns-after-loop-part-2 t c =
    on_ok_weaker _ (ended c.args.names.now Or c.deref-part-items-in-Any.result.now c.loop-part-2.part-index c.loop-part-2.text.items _ (closing c.is_some-needed.result) _
    c.loop-part-2-test.false c.loop-part-2.invariant) c.add_if-in-Any-2.ensures
