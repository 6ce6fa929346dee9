use Rattle.std.proofs.Common.{ap, subst, sym, ◌∙◌}
use Rattle.kc_language.specs.Values.{condition}
use Rattle.kc_tree.specs.{Layouts.condition_at, declared.rows.EntryPlace.EntryPlace}
use Rattle.kc_possible.specs.Bounds.{IsWithin}
use Rattle.kc_possible.proofs.{DefinitionWalks.{all-left, dependencies-next, dependencies_of, next-is, walk-begins, walk-ends}, SeenLemmas.{seen-all, seen-more, seen-none}}
use Rattle.kc_possible.proofs.truths.direct_bounds.Goals as goal

pub definitions-init : goal.definitions-init
definitions-init c =
    let p = c.args.p.now in
    let l = p.laid.layout.now in
    let id = c.args.id in
    let row = c.args.row.now in
    record {
      seen = λ known h.
          let all = ap (dependencies_of l id p.laid.tree.now known) (all-left l id row c.requires) in
          seen-none c.exactly-greatest.result _ _ c.exactly-greatest.ensures.within all;
      walk = walk-begins l id row c.requires;
    }

pub definitions-preserved : goal.definitions-preserved
definitions-preserved c =
    let p = c.args.p.now in
    let l = p.laid.layout.now in
    let id = c.args.id in
    let at = c.definitions.at.0 in
    let next = next-is l id at c.place-place.result.next.0 (sym c.is_some.ensures ∙ c.definitions-test.true) c.definitions.invariant.walk (ap (λ (x : EntryPlace). x.next.0) c.place-place.ensures) in
    record {
      seen = λ known h.
          let tree = p.laid.tree.now in
          let found = subst (λ (x : EntryPlace). IsWithin c.context.result (condition tree known (condition_at l x.context.0))) c.place-place.ensures (c.context.ensures known h) in
          seen-more c.definitions.greatest c.context.result c.greater-greatest.result _ _ _ _ c.greater-greatest.ensures found
          (dependencies-next l id tree known at c.place-place.result.next.0 next) (c.definitions.invariant.seen known h);
      walk = next.walk;
    }

pub definitions-smaller : goal.definitions-smaller
definitions-smaller c =
    let at = c.definitions.at.0 in
    (next-is c.args.p.now.laid.layout.now c.args.id at c.place-place.result.next.0 (sym c.is_some.ensures ∙ c.definitions-test.true) c.definitions.invariant.walk (ap (λ (x : EntryPlace). x.next.0) c.place-place.ensures)).smaller

pub returns : goal.returns
returns c =
    let p = c.args.p.now in
    let l = p.laid.layout.now in
    c.upgraded.ensures _ (λ known h.
    let none = ap (dependencies_of l c.args.id p.laid.tree.now known) (walk-ends l c.args.id c.definitions.at.0 (sym c.is_some.ensures ∙ c.definitions-test.false)) in
    seen-all c.definitions.greatest _ _ none (c.definitions.invariant.seen known h))
