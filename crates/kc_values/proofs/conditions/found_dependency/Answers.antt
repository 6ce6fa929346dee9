use Rattle.std.proofs.Common.{ap, sym, ◌∙◌}
use Rattle.std.specs.List.{filter_map}
use Rattle.kc_language.specs.{Expressions.lesser, Symbols.dependency_in}
use Rattle.kc_tree.specs.EntryViews.{statements_of}
use Rattle.kc_values.specs.AtTable.{and_value, context}
use Rattle.kc_values.proofs.ContextLemmas.{dependency-is}
use Rattle.kc_values.proofs.conditions.found_dependency.Goals as goal

pub returns : goal.returns
returns c =
    let t = c.args.table.now in
    let own = c.depends_least-own.ensures ∙ ap (λ r. and_value t (filter_map dependency_in (statements_of r))) c.attributes-attributes.ensures in
    c.enclosing_least.ensures
    ∙ (λ j. lesser (own j) (context t (c.outer_context.ensures j)))
    ∙ sym (dependency-is t c.args.choice.now c.requires)
