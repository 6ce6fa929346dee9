use Rattle.std.proofs.Common.{None, Some, ap, false, refl, sym, true, ◌∙◌, ◌≡◌}
use Rattle.std.specs.List.{filter_map}
use Rattle.kc_expr.specs.When.{when_view}
use Rattle.kc_language.specs.{Expressions.lesser, Symbols.stated_default, Values.is_n}
use Rattle.kc_entries.specs.declared.statement.SymbolDefault.{SymbolDefault}
use Rattle.kc_tree.specs.{EntryViews.statements_of, Layouts.{choice_dependency, choice_facts, member_default, with_when}, LineParts.default_said}
use Rattle.kc_values.specs.AtTable as table
use Rattle.kc_values.specs.{Computed.dependency_of, TableFacts.known_at}
use Rattle.kc_values.specs.PartsOfValues as spec
use Rattle.kc_values.proofs.{ChoiceRows.{default-end, default-line, default-quiet, default-stranger}, ConditionLemmas.condition-with_when, choices.first_default.Goals.{else-not-is_n-via-else-not-is_n, else-not-is_n-via-then-not-is_n+else-visible, in-Some+in-Some-default_member+else-not-is_n, in-Some+in_default-default_member, in_default}}
use Rattle.kc_values.proofs.choices.first_default.Goals as goal

pub returns-then-visible : goal.returns-then-visible
returns-then-visible c =
    let t = c.args.table.now in
    let l = t.layout.now in
    let k = c.args.id.0 in
    let row = c.args.choice.now in
    let dep = choice_dependency l row in
    let ls = c.attributes-line-items.result.now in
    let d = c.in-Some.stated.now in
    let first = c.choice_dependency-within.ensures ∙ ap (dependency_of t.tree.now l (known_at t)) c.requires in
    let is = condition-with_when t.tree.now (known_at t) dep (when_view d.when) ∙ sym (c.guarded.ensures ∙ ap (λ x. lesser x (table.when_value t (when_view d.when))) first) in
    let here =
    default-line t k row ls c.requires c.loop-line.line-index c.line-item.result (default_said d) c.in-Some-default_member.member false true c.loop-line-test.true c.line-item.is
    c.in-Some.ensures c.in-Some-default_member.ensures (ap is_n is ∙ sym c.is_n.ensures ∙ c.if-not-is_n.true) (sym c.visible.ensures ∙ c.if-visible.true) in
    let all = ap (λ r. spec.first_default t.tree.now (known_at t) (choice_facts l k row) (filter_map (member_default l k dep) (filter_map stated_default (statements_of r)))) c.attributes-line-items.ensures in
    sym here ∙ c.loop-line.invariant ∙ all

pub loop-line-preserved : goal.loop-line-preserved
loop-line-preserved c =
    let t = c.args.table.now in
    let l = t.layout.now in
    let k = c.args.id.0 in
    let row = c.args.choice.now in
    let dep = choice_dependency l row in
    let ls = c.attributes-line-items.result.now in
    let i = c.loop-line.line-index in
    let first = c.choice_dependency-within.ensures ∙ ap (dependency_of t.tree.now l (known_at t)) c.requires in
    elim c.match-stated_default.branch [
      | in-Some+in-Some-default_member+else-not-is_n w ↦
          let d = w.in-Some.stated.now in
          let is = condition-with_when t.tree.now (known_at t) dep (when_view d.when) ∙ sym (w.guarded.ensures ∙ ap (λ x. lesser x (table.when_value t (when_view d.when))) first) in
          elim w.else-not-is_n.branch [
            | else-not-is_n-via-then-not-is_n+else-visible v ↦
                sym (default-line t k row ls c.requires i c.line-item.result (default_said d) w.in-Some-default_member.member false false c.loop-line-test.true c.line-item.is
                w.in-Some.ensures w.in-Some-default_member.ensures (ap is_n is ∙ sym w.is_n.ensures ∙ v.if-not-is_n.true) (sym v.visible.ensures ∙ v.if-visible.false))
                ∙ c.loop-line.invariant
            | else-not-is_n-via-else-not-is_n v ↦
                sym (default-line t k row ls c.requires i c.line-item.result (default_said d) w.in-Some-default_member.member true _ c.loop-line-test.true c.line-item.is
                w.in-Some.ensures w.in-Some-default_member.ensures (ap is_n is ∙ sym w.is_n.ensures ∙ v.if-not-is_n.false) refl)
                ∙ c.loop-line.invariant
          ]
      | in-Some+in_default-default_member w ↦
          sym (default-stranger t k row ls i c.line-item.result (default_said w.in-Some.stated.now) c.loop-line-test.true c.line-item.is w.in-Some.ensures w.in_default-default_member.ensures)
          ∙ c.loop-line.invariant
      | in_default w ↦ sym (default-quiet t k row ls i c.line-item.result c.loop-line-test.true c.line-item.is w.in_default.ensures) ∙ c.loop-line.invariant
    ]

pub returns : goal.returns
returns c =
    let t = c.args.table.now in
    let l = t.layout.now in
    let k = c.args.id.0 in
    let row = c.args.choice.now in
    let dep = choice_dependency l row in
    let ls = c.attributes-line-items.result.now in
    let all = ap (λ r. spec.first_default t.tree.now (known_at t) (choice_facts l k row) (filter_map (member_default l k dep) (filter_map stated_default (statements_of r)))) c.attributes-line-items.ensures in
    sym (default-end t k row ls c.loop-line.line-index c.loop-line-test.false) ∙ c.loop-line.invariant ∙ all
