-- The steps of the loops of `expression`.
use Rattle.std.proofs.Common.{ap, refl, ◌∙◌}
use Rattle.kc_expr.specs.{Form.form_of, declared.expression.Parts.Parts}
use Rattle.kc_expr.proofs.FormLemmas.{greater-assoc, lesser-assoc, value-All, value-Any}
use Rattle.kc_language.specs.Expressions.{greater, greatest, least, lesser, value}
use Rattle.kc_values.proofs.TriLemmas.{greater_n, lesser_y}
use Rattle.kc_possible.proofs.PartLemmas.{first_two, no_more, one_more}
use Rattle.kc_possible.proofs.expression.+expression.Goals as goal

pub loop-part-init : goal.loop-part-init
loop-part-init t c =
    let p = c.args.p.now in
    let modules = p.laid.tree.now.modules in
    first_two p lesser least lesser-assoc (λ t ts. refl) c.expression-in-All.result c.expression-in-All-2.result c.lesser-all.result c.in-All.parts.value c.deref-in-All.result.now c.deref-in-All-2.result.now
    c.deref-part-items.result.now (form_of c.args.e.now) c.lesser-all.ensures c.expression-in-All.ensures c.expression-in-All-2.ensures c.deref-in-All.ensures c.deref-in-All-2.ensures
    (c.deref-part-items.ensures.value ∙ ap (λ (x : Parts). x.rest.items) c.deref-in-All-3.ensures)
    (λ known. ap (λ x. value known modules (form_of x)) c.in-All.is ∙ value-All known modules c.in-All.parts)

pub loop-part-preserved : goal.loop-part-preserved
loop-part-preserved t c =
    one_more c.args.p.now lesser least lesser-assoc (λ t ts. refl) c.loop-part.all c.expression-in-loop-part.result c.lesser-all-in-loop-part.result c.deref-part-items.result.now c.loop-part.part-index
    c.part-item.result (form_of c.args.e.now) c.lesser-all-in-loop-part.ensures c.expression-in-loop-part.ensures c.loop-part-test.true c.part-item.is c.loop-part.invariant

pub loop-part-2-init : goal.loop-part-2-init
loop-part-2-init t c =
    let p = c.args.p.now in
    let modules = p.laid.tree.now.modules in
    first_two p greater greatest greater-assoc (λ t ts. refl) c.expression-in-Any.result c.expression-in-Any-2.result c.greater-any.result c.in-Any.parts.value c.deref-in-Any.result.now c.deref-in-Any-2.result.now
    c.deref-part-items-in-Any.result.now (form_of c.args.e.now) c.greater-any.ensures c.expression-in-Any.ensures c.expression-in-Any-2.ensures c.deref-in-Any.ensures c.deref-in-Any-2.ensures
    (c.deref-part-items-in-Any.ensures.value ∙ ap (λ (x : Parts). x.rest.items) c.deref-in-Any-3.ensures)
    (λ known. ap (λ x. value known modules (form_of x)) c.in-Any.is ∙ value-Any known modules c.in-Any.parts)

pub loop-part-2-preserved : goal.loop-part-2-preserved
loop-part-2-preserved t c =
    one_more c.args.p.now greater greatest greater-assoc (λ t ts. refl) c.loop-part-2.any c.expression-in-loop-part-2.result c.greater-any-in-loop-part-2.result c.deref-part-items-in-Any.result.now c.loop-part-2.part-index
    c.part-item-in-loop-part-2.result (form_of c.args.e.now) c.greater-any-in-loop-part-2.ensures c.expression-in-loop-part-2.ensures c.loop-part-2-test.true c.part-item-in-loop-part-2.is c.loop-part-2.invariant

pub returns-after-loop-part : goal.returns-after-loop-part
returns-after-loop-part t c =
    no_more c.args.p.now lesser least lesser-assoc (λ t ts. refl) c.loop-part.all c.deref-part-items.result.now c.loop-part.part-index (form_of c.args.e.now) lesser_y c.loop-part-test.false c.loop-part.invariant

pub returns-after-loop-part-2 : goal.returns-after-loop-part-2
returns-after-loop-part-2 t c =
    no_more c.args.p.now greater greatest greater-assoc (λ t ts. refl) c.loop-part-2.any c.deref-part-items-in-Any.result.now c.loop-part-2.part-index (form_of c.args.e.now) greater_n c.loop-part-2-test.false c.loop-part-2.invariant
