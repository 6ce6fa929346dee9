use Rattle.std.proofs.{Common.{ap, arith, subst, sym, ◌∙◌}, lemmas.{Bool.le-ltb, List.Elements.All-contains}}
use Rattle.std.specs.Prelude.{Contains, IsTrue, false, get_or, nat_lt, slice_index_or, true, ◌||◌, ◌≡◌}
use Rattle.kc_solve.proofs.PlanSteps.{ordered_more}
use Rattle.kc_solve.proofs.plan.is_ordered.Goals as goal

pub loop-node-preserved : goal.loop-node-preserved
loop-node-preserved c =
    let g = c.args.needs.now in
    let nodes = c.args.nodes.now in
    let k = c.loop-node.node-index in
    let done = c.loop-node.done.items in
    let here = get_or nodes k 0 in
    ordered_more k g nodes done c.loop-node-test.true c.loop-node.invariant (λ t past row.
    let all = c.are_ready.ensures.0 c.if-not-are_ready.false in
    let mine = subst (λ ts. Contains ts t) (sym c.row.ensures) row in
    let ready = All-contains (λ u. IsTrue (nat_lt u c.symbols-symbols.result || slice_index_or c.deref.result.now u false)) c.row.result.now t all mine in
    let below = le-ltb t c.symbols-symbols.result (omega (arith, past, c.symbols-symbols.ensures)) in
    sym (ap (λ xs. slice_index_or xs t false) c.deref.ensures.value) ∙ sym (ap (λ b. b || slice_index_or c.deref.result.now t false) below) ∙ ready)
