-- The first definition, one more, and the end.
use Rattle.std.proofs.Common.{List, ap, subst, sym, ◌≡◌, ◌∙◌}
use Rattle.std.specs.List.{AllByRecursion}
use Rattle.kc_expr.specs.When.{when_view}
use Rattle.kc_language.specs.Values.{condition}
use Rattle.kc_tree.specs.{Layouts.{DefinitionFacts, condition_at, with_when}, declared.rows.EntryPlace.EntryPlace}
use Rattle.kc_possible.specs.Bounds.{IsWithin}
use Rattle.kc_possible.proofs.DefinitionWalks.{all-left, definitions_left, facts_at, next-is, walk-begins, walk-ends}
use Rattle.kc_explain.proofs.AlwaysLemmas.{each-end, each-next, in_each}
use Rattle.kc_explain.proofs.always.is_in_each.Goals as goal

pub definitions-init : goal.definitions-init
definitions-init c =
    let p = c.args.p.now in
    let l = p.laid.layout.now in
    let row = c.args.row.now in
    record {
      whole = λ known h some. subst (AllByRecursion (λ (d : DefinitionFacts). condition p.laid.tree.now known (with_when d.dependency (when_view c.args.when.now)) ≡ c.args.value))
          (all-left l c.args.id row c.requires) some;
      walk = walk-begins l c.args.id row c.requires;
    }

pub definitions-smaller : goal.definitions-smaller
definitions-smaller c =
    let at = c.definitions.at.0 in
    (next-is c.args.p.now.laid.layout.now c.args.id at c.place-place.result.next.0 (sym c.is_some.ensures ∙ c.definitions-test.true) c.definitions.invariant.walk (ap (λ (x : EntryPlace). x.next.0) c.place-place.ensures)).smaller

pub definitions-preserved : goal.definitions-preserved
definitions-preserved c =
    let p = c.args.p.now in
    let l = p.laid.layout.now in
    let id = c.args.id in
    let at = c.definitions.at.0 in
    let next = next-is l id at c.place-place.result.next.0 (sym c.is_some.ensures ∙ c.definitions-test.true) c.definitions.invariant.walk (ap (λ (x : EntryPlace). x.next.0) c.place-place.ensures) in
    record {
      whole = λ known h some.
          let tree = p.laid.tree.now in
          let found = subst (λ (x : EntryPlace). condition tree known (with_when (condition_at l x.context.0) (when_view c.args.when.now)) ≡ c.args.value) c.place-place.ensures
          (c.is_exactly.ensures c.if-not-is_exactly.false _ (c.line_bounds.ensures known h)) in
          c.definitions.invariant.whole known h
          (each-next (λ (d : DefinitionFacts). condition tree known (with_when d.dependency (when_view c.args.when.now)) ≡ c.args.value)
          (definitions_left l id at) (definitions_left l id c.place-place.result.next.0) (facts_at l at) next.says found some);
      walk = next.walk;
    }

pub returns : goal.returns
returns c = λ told known h.
    let p = c.args.p.now in
    let l = p.laid.layout.now in
    in_each p c.args.id c.args.row.now c.requires known (when_view c.args.when.now) c.args.value
    (c.definitions.invariant.whole known h
    (each-end (λ (d : DefinitionFacts). condition p.laid.tree.now known (with_when d.dependency (when_view c.args.when.now)) ≡ c.args.value)
    (definitions_left l c.args.id c.definitions.at.0) (walk-ends l c.args.id c.definitions.at.0 (sym c.is_some.ensures ∙ c.definitions-test.false))))
