use Rattle.std.proofs.Common.{ap, sym, ◌∙◌}
use Rattle.kc_language.specs.Expressions.{lesser}
use Rattle.kc_expr.specs.When.{when_view}
use Rattle.kc_values.specs.{Computed.when_value, TableFacts.{condition_at, known_at}}
use Rattle.kc_values.proofs.ConditionLemmas.{condition-with_when}
use Rattle.kc_values.proofs.conditions.condition.Goals as goal

pub returns : goal.returns
returns c =
    let t = c.args.table.now in
    c.guarded.ensures
    ∙ ap (λ x. lesser x (when_value t.tree.now (known_at t) (when_view c.args.when.now))) c.context.ensures
    ∙ sym (condition-with_when t.tree.now (known_at t) (condition_at t c.args.within.0) (when_view c.args.when.now))
