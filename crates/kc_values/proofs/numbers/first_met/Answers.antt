use Rattle.std.proofs.Common.{None, Some, ap, false, map, refl, subst, sym, true, ◌∙◌, ◌≡◌}
use Rattle.std.specs.List.{filter_map}
use Rattle.kc_language.specs.{Symbols.range_in, Values.is_n}
use Rattle.kc_tree.specs.{EntryViews.statements_of, Layouts.range_view, LineParts.range_said}
use Rattle.kc_values.specs.{AtTable.first_met, FoundRows.IsMetRange, TableFacts.condition_at}
use Rattle.kc_values.proofs.{MetLoops.{met-end, met-line, met-quiet}, numbers.first_met.Goals.{in-Some+else-not-is_n, in_default}}
use Rattle.kc_values.proofs.numbers.first_met.Goals as goal

pub loop-line-preserved : goal.loop-line-preserved
loop-line-preserved c =
    let t = c.args.table.now in
    let view = range_view (condition_at t c.args.place.context.0) in
    let ls = c.attributes-line-items.result.now in
    let i = c.loop-line.line-index in
    elim c.match-range_of.branch [
      | in-Some+else-not-is_n w ↦
          sym (met-line t range_in view ls i c.line-item.result (range_said w.in-Some.range.now) true c.loop-line-test.true c.line-item.is w.in-Some.ensures
          (sym (ap is_n w.condition.ensures) ∙ sym w.is_n.ensures ∙ w.if-not-is_n.false))
          ∙ c.loop-line.invariant
      | in_default w ↦ sym (met-quiet t range_in view ls i c.line-item.result c.loop-line-test.true c.line-item.is w.in_default.ensures) ∙ c.loop-line.invariant
    ]

pub returns-then-not-is_n : goal.returns-then-not-is_n
returns-then-not-is_n c =
    let t = c.args.table.now in
    let view = range_view (condition_at t c.args.place.context.0) in
    let ls = c.attributes-line-items.result.now in
    let here =
    met-line t range_in view ls c.loop-line.line-index c.line-item.result (range_said c.in-Some.range.now) false c.loop-line-test.true c.line-item.is c.in-Some.ensures
    (sym (ap is_n c.condition.ensures) ∙ sym c.is_n.ensures ∙ c.if-not-is_n.true) in
    let all = ap (λ r. first_met t (map view (filter_map range_in (statements_of r)))) c.attributes-line-items.ensures in
    subst (λ o. IsMetRange t o (Some c.in-Some.range)) (sym here ∙ c.loop-line.invariant ∙ all) (refl, refl)

pub returns : goal.returns
returns c =
    let t = c.args.table.now in
    let view = range_view (condition_at t c.args.place.context.0) in
    let ls = c.attributes-line-items.result.now in
    let all = ap (λ r. first_met t (map view (filter_map range_in (statements_of r)))) c.attributes-line-items.ensures in
    subst (λ o. IsMetRange t o None) (sym (met-end t range_in view ls c.loop-line.line-index c.loop-line-test.false) ∙ c.loop-line.invariant ∙ all) refl
