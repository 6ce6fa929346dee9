use Rattle.std.proofs.Common.{ap, refl, sym, ◌∙◌}
use Rattle.std.specs.Prelude.{option_map}
use Rattle.kc_expr.specs.When.{when_view}
use Rattle.kc_language.specs.Expressions.{lesser}
use Rattle.kc_entries.specs.StatementViews.{input_prompt_view}
use Rattle.kc_tree.specs.Layouts.{choice_dependency, place_of, prompt_in, prompt_view, visible_at}
use Rattle.kc_values.specs.AtTable as at
use Rattle.kc_values.specs.{Computed.dependency_of, PartsOfValues.prompt_value, TableFacts.known_at}
use Rattle.kc_values.proofs.ConditionLemmas.{condition-plain, condition-prompt}
use Rattle.kc_values.proofs.conditions.choice_prompt.Goals as goal

pub returns-in-Some : goal.returns-in-Some
returns-in-Some c =
    let t = c.args.table.now in
    let known = known_at t in
    let l = t.layout.now in
    let dep = choice_dependency l c.args.choice.now in
    let visible = visible_at l c.place-place.result.visible.0 in
    let p = input_prompt_view c.in-Some.prompt.now in
    let first = c.choice_dependency.ensures ∙ ap (dependency_of t.tree.now l known) c.requires in
    c.guarded.ensures
    ∙ ap (λ x. lesser x (at.when_value t (when_view c.in-Some.prompt.now.when))) (c.lesser-shown.ensures ∙ (λ j. lesser (first j) (c.visible_context.ensures j)))
    ∙ sym (condition-prompt t.tree.now known dep visible p)
    ∙ condition-plain t.tree.now known (prompt_view dep visible p) refl
    ∙ ap (λ o. prompt_value t.tree.now known (option_map (prompt_view dep visible) o)) c.in-Some.ensures
    ∙ ap (λ q. prompt_value t.tree.now known (option_map (prompt_view dep (visible_at l q.visible.0)) (prompt_in l q))) c.place-place.ensures
