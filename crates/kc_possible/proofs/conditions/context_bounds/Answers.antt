use Rattle.std.proofs.Common.{subst, sym}
use Rattle.kc_language.specs.Values.{condition}
use Rattle.kc_entries.specs.StatementViews.{head_view}
use Rattle.kc_tree.specs.{EntryViews.statements_of, Layouts.condition_at}
use Rattle.kc_possible.specs.{Bounds.IsWithin, PartsOfPossible.asked_value}
use Rattle.kc_possible.proofs.OutwardSteps.{asked-at, past-same}
use Rattle.kc_possible.proofs.conditions.context_bounds.Goals as goal

pub returns-in-Some : goal.returns-in-Some
returns-in-Some c = λ known ok.
    let tree = c.args.p.now.laid.tree.now in
    let l = c.args.p.now.laid.layout.now in
    let at = c.args.at.0 in
    let x = c.in-Some.lines.first.now in
    let around = subst (λ n. IsWithin c.context-around.result (condition tree known (condition_at l n))) c.outer_context.ensures (c.context-around.ensures known ok) in
    let own = subst (λ r. IsWithin c.asked.result (asked_value tree l known at (head_view x.head) (statements_of r))) c.in-Some.ensures.own (c.asked.ensures known ok) in
    subst (IsWithin c.lesser.result) (sym (asked-at tree l known at x c.in-Some.ensures.first)) (c.lesser.ensures _ _ around own)

pub returns-in-None : goal.returns-in-None
returns-in-None c = λ known ok.
    let tree = c.args.p.now.laid.tree.now in
    let l = c.args.p.now.laid.layout.now in
    let around = subst (λ n. IsWithin c.context-around.result (condition tree known (condition_at l n))) c.outer_context.ensures (c.context-around.ensures known ok) in
    subst (IsWithin c.context-around.result) (sym (past-same tree l known c.args.at.0 c.in-None.ensures.first)) around
