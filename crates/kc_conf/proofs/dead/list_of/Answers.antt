-- One symbol more, with its reasons.
use Rattle.std.proofs.{Common.{List, ap, get_or, subst₂, sym, take, ◌++◌, ◌∙◌}, lemmas.List.take_more}
use Rattle.kc_language.specs.declared.expressions.SymId.{SymId}
use Rattle.kc_conf.specs.{Dead.dead_line, DeadParts.IsListOf}
use Rattle.kc_conf.proofs.DeadLemmas.{list_grows}
use Rattle.kc_conf.proofs.dead.list_of.Goals as goal

pub loop-id-preserved : goal.loop-id-preserved
loop-id-preserved c =
    let tree = c.args.p.now.laid.tree.now in
    let ids = c.args.dead.now in
    let i = c.loop-id.id-index in
    let id : SymId = get_or ids i (record { 0 = 0 }) in
    let text = c.in_ok-add_line.ensures ∙ ap (λ (reasons : List SymId). c.loop-id.text.items ++ dead_line tree (record { symbol = id; reasons = reasons })) c.deref.ensures.value in
    subst₂ (IsListOf tree) (sym (take_more ids i (record { 0 = 0 }) c.loop-id-test.true)) (sym text)
    (list_grows tree (take i ids) c.loop-id.text.items (record { symbol = id; reasons = c.in_ok-reasons.reasons.items }) c.in_ok-reasons.ensures c.loop-id.invariant)
