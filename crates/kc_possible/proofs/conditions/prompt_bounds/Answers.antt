use Rattle.std.proofs.Common.{subst, sym}
use Rattle.kc_entries.specs.StatementViews.{input_prompt_view}
use Rattle.kc_tree.specs.Layouts.{condition_at, visible_at}
use Rattle.kc_values.proofs.ConditionLemmas.{condition-prompt}
use Rattle.kc_possible.specs.Bounds.{IsWithin}
use Rattle.kc_possible.proofs.conditions.prompt_bounds.Goals as goal

pub returns : goal.returns
returns c = λ known ok.
    let laid = c.args.p.now.laid in
    let l = laid.layout.now in
    let is = condition-prompt laid.tree.now known (condition_at l c.args.place.context.0) (visible_at l c.args.place.visible.0) (input_prompt_view c.args.prompt.now) in
    subst (IsWithin c.lesser.result) (sym is)
    (c.lesser.ensures _ _ (c.lesser-first.ensures _ _ (c.context.ensures known ok) (c.visible.ensures known ok)) (c.if_bounds.ensures known ok))
