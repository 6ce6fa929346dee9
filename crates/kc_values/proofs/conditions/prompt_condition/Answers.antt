use Rattle.std.proofs.Common.{ap, sym, ◌∙◌}
use Rattle.kc_language.specs.Expressions.{lesser}
use Rattle.kc_expr.specs.When.{when_view}
use Rattle.kc_entries.specs.StatementViews.{input_prompt_view}
use Rattle.kc_tree.specs.Layouts.{visible_at}
use Rattle.kc_values.specs.{Computed.when_value, TableFacts.{condition_at, known_at}}
use Rattle.kc_values.proofs.ConditionLemmas.{condition-prompt}
use Rattle.kc_values.proofs.conditions.prompt_condition.Goals as goal

pub returns : goal.returns
returns c =
    let t = c.args.table.now in
    c.guarded.ensures
    ∙ ap (λ x. lesser x (when_value t.tree.now (known_at t) (when_view c.args.prompt.now.when))) (c.lesser-first.ensures ∙ (λ j. lesser (c.context.ensures j) (c.visible_context.ensures j)))
    ∙ sym (condition-prompt t.tree.now (known_at t) (condition_at t c.args.place.context.0) (visible_at t.layout.now c.args.place.visible.0) (input_prompt_view c.args.prompt.now))
