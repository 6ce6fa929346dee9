use Rattle.std.proofs.Common.{None, Some, ap, false, map, refl, subst, sym, true, ◌∙◌, ◌≡◌}
use Rattle.std.specs.List.{filter_map}
use Rattle.kc_language.specs.{Symbols.stated_default, Values.is_n}
use Rattle.kc_tree.specs.{EntryViews.statements_of, Layouts.default_view, LineParts.default_said}
use Rattle.kc_values.specs.{AtTable.first_met, FoundRows.IsMetDefault, TableFacts.condition_at}
use Rattle.kc_values.proofs.{MetLoops.{met-end, met-line, met-quiet}, truths.first_met.Goals.{in-Some+else-not-is_n, in_default}}
use Rattle.kc_values.proofs.truths.first_met.Goals as goal

pub loop-line-preserved : goal.loop-line-preserved
loop-line-preserved c =
    let t = c.args.table.now in
    let view = default_view (condition_at t c.args.place.context.0) in
    let ls = c.attributes-line-items.result.now in
    let i = c.loop-line.line-index in
    elim c.match-stated_default.branch [
      | in-Some+else-not-is_n w ↦
          sym (met-line t stated_default view ls i c.line-item.result (default_said w.in-Some.default.now) true c.loop-line-test.true c.line-item.is w.in-Some.ensures
          (sym (ap is_n w.condition-when.ensures) ∙ sym w.is_n.ensures ∙ w.if-not-is_n.false))
          ∙ c.loop-line.invariant
      | in_default w ↦ sym (met-quiet t stated_default view ls i c.line-item.result c.loop-line-test.true c.line-item.is w.in_default.ensures) ∙ c.loop-line.invariant
    ]

pub returns-then-not-is_n : goal.returns-then-not-is_n
returns-then-not-is_n c =
    let t = c.args.table.now in
    let view = default_view (condition_at t c.args.place.context.0) in
    let ls = c.attributes-line-items.result.now in
    let here =
    met-line t stated_default view ls c.loop-line.line-index c.line-item.result (default_said c.in-Some.default.now) false c.loop-line-test.true c.line-item.is c.in-Some.ensures
    (sym (ap is_n c.condition-when.ensures) ∙ sym c.is_n.ensures ∙ c.if-not-is_n.true) in
    let all = ap (λ r. first_met t (map view (filter_map stated_default (statements_of r)))) c.attributes-line-items.ensures in
    subst (λ o. IsMetDefault t o (Some (c.in-Some.default, c.condition-when.result))) (sym here ∙ c.loop-line.invariant ∙ all) (refl, c.condition-when.ensures)

pub returns : goal.returns
returns c =
    let t = c.args.table.now in
    let view = default_view (condition_at t c.args.place.context.0) in
    let ls = c.attributes-line-items.result.now in
    let all = ap (λ r. first_met t (map view (filter_map stated_default (statements_of r)))) c.attributes-line-items.ensures in
    subst (λ o. IsMetDefault t o None) (sym (met-end t stated_default view ls c.loop-line.line-index c.loop-line-test.false) ∙ c.loop-line.invariant ∙ all) refl
