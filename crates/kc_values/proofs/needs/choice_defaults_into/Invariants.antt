use Rattle.std.proofs.Common.{take, ◌++◌, ◌≡◌}
use Rattle.std.specs.{List.{flat_map, list_any}, Option.is_some}
use Rattle.kc_entries.specs.{StatementViews.attribute_view, declared.entries.AttributeLine.AttributeLine}
use Rattle.kc_tree.specs.Layouts.{member_named}
use Rattle.kc_values.specs.NeedRows.{choice_default_names}
use Rattle.kc_values.proofs.needs.choice_defaults_into.Given as goal

abbrev pub invariant-loop-line : goal.invariant-loop-line
invariant-loop-line l =
    (l.out.nodes.items ≡ l.initial.out.nodes.items) ×
    ((l.out.names.items ≡ l.initial.out.names.items ++ flat_map (λ (a : AttributeLine). choice_default_names l.layout l.id.0 (attribute_view a.attribute)) (take l.line-index l.attributes)) ×
    (l.is_read ≡ list_any (λ (a : AttributeLine). is_some (member_named l.layout l.id.0 (attribute_view a.attribute))) (take l.line-index l.attributes)))
