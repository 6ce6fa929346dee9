use Rattle.std.proofs.Common.{take, ◌++◌, ◌≡◌}
use Rattle.std.specs.List.{flat_map}
use Rattle.kc_entries.specs.{StatementViews.attribute_view, declared.entries.AttributeLine.AttributeLine}
use Rattle.kc_values.specs.NeedRows.{line_names}
use Rattle.kc_values.proofs.needs.stated_into.Given as goal

abbrev pub invariant-loop-line : goal.invariant-loop-line
invariant-loop-line l =
    (l.out.nodes.items ≡ l.initial.out.nodes.items) ×
    (l.out.names.items ≡ l.initial.out.names.items ++ flat_map (λ (a : AttributeLine). line_names l.layout.modules l.has_range (attribute_view a.attribute)) (take l.line-index l.attributes))
