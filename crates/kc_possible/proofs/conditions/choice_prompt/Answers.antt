use Rattle.std.proofs.Common.{ap, refl, subst, sym, ◌∙◌}
use Rattle.std.specs.Prelude.{option_map}
use Rattle.kc_entries.specs.StatementViews.{input_prompt_view}
use Rattle.kc_tree.specs.Layouts.{choice_dependency, prompt_in, prompt_view, visible_at}
use Rattle.kc_values.specs.{Computed.dependency_of, PartsOfValues.prompt_value}
use Rattle.kc_values.proofs.ConditionLemmas.{condition-plain, condition-prompt}
use Rattle.kc_possible.specs.Bounds.{IsWithin}
use Rattle.kc_possible.proofs.conditions.choice_prompt.Goals as goal

pub returns-in-Some : goal.returns-in-Some
returns-in-Some c = λ known ok.
    let tree = c.args.p.now.laid.tree.now in
    let l = c.args.p.now.laid.layout.now in
    let dep = choice_dependency l c.args.choice.now in
    let visible = visible_at l c.place-place.result.visible.0 in
    let q = input_prompt_view c.in-Some.prompt.now in
    let first = subst (λ o. IsWithin c.dependency.result (dependency_of tree l known o)) c.requires (c.dependency.ensures known ok) in
    let all = c.lesser.ensures _ _ (c.lesser-shown.ensures _ _ first (c.visible.ensures known ok)) (c.if_bounds.ensures known ok) in
    let is =
    sym (condition-prompt tree known dep visible q)
    ∙ condition-plain tree known (prompt_view dep visible q) refl
    ∙ ap (λ o. prompt_value tree known (option_map (prompt_view dep visible) o)) c.in-Some.ensures
    ∙ ap (λ r. prompt_value tree known (option_map (prompt_view dep (visible_at l r.visible.0)) (prompt_in l r))) c.place-place.ensures in
    subst (IsWithin c.lesser.result) is all
