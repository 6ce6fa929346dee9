-- What the blocks around an entry ask, and what its own lines do.
use Rattle.std.proofs.Common.{ap, sym, ◌∙◌}
use Rattle.std.specs.List.{filter_map}
use Rattle.kc_language.specs.Symbols.{TreeFacts, dependency_in}
use Rattle.kc_language.specs.Texts.{known}
use Rattle.kc_language.specs.Values.{and_value}
use Rattle.kc_tree.specs.EntryViews.{statements_of}
use Rattle.kc_values.specs.AtTable.{context}
use Rattle.kc_explain.proofs.DependencyLemmas.{none-is, some-is}
use Rattle.kc_explain.proofs.parts.dependency_value.Goals as goal

pub returns-in-Some : goal.returns-in-Some
returns-in-Some c =
    some-is c.args.t.now.layout.now c.args.t.now.solved.now c.table-table.result.now
    (sym c.table-table.result.now.laid.lines ∙ ap (λ (t : TreeFacts). t.lines) c.table-table.ensures.tree ∙ c.args.t.now.laid.lines) c.table-table.ensures
    c.args.entry.0 c.in-Some.own.first.now _ _ _ (sym c.in-Some.ensures.first)
    (c.context.ensures ∙ ap (context c.table-table.result.now) c.outer_context.ensures)
    (c.own_least.ensures ∙ ap (λ xs. and_value c.args.t.now.solved.now.tree (known c.args.t.now.solved.now) (filter_map dependency_in (statements_of xs))) c.in-Some.ensures.own)
    c.lesser.ensures

pub returns-in-None : goal.returns-in-None
returns-in-None c =
    none-is c.args.t.now.layout.now c.args.t.now.solved.now c.table-table.result.now
    (sym c.table-table.result.now.laid.lines ∙ ap (λ (t : TreeFacts). t.lines) c.table-table.ensures.tree ∙ c.args.t.now.laid.lines)
    c.args.entry.0 (sym c.in-None.ensures.first)
