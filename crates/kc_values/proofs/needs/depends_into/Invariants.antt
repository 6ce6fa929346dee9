use Rattle.std.proofs.Common.{take, ◌++◌, ◌≡◌}
use Rattle.std.specs.List.{flat_map}
use Rattle.kc_language.specs.Symbols.{dependency_in}
use Rattle.kc_entries.specs.{StatementViews.attribute_view, declared.entries.AttributeLine.AttributeLine}
use Rattle.kc_values.specs.NeedRows.{when_names}
use Rattle.kc_values.proofs.needs.depends_into.Given as goal

abbrev pub invariant-loop-line : goal.invariant-loop-line
invariant-loop-line l =
    (l.out.nodes.items ≡ l.initial.out.nodes.items) ×
    (l.out.names.items ≡ l.initial.out.names.items ++ flat_map (λ (a : AttributeLine). when_names l.layout.modules (dependency_in (attribute_view a.attribute))) (take l.line-index l.attributes))
