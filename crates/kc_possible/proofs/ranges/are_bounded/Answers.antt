use Rattle.std.proofs.Common.{List, ap, subst, sym, ◌∙◌}
use Rattle.kc_tree.specs.{Layouts.DefinitionFacts, declared.rows.EntryPlace.EntryPlace}
use Rattle.kc_possible.specs.Ranges.{IsBounded}
use Rattle.kc_possible.proofs.{DefinitionWalks.{all-left, next-is, walk-begins, walk-ends}, RangeWalks.{bounded-next, bounded-none}}
use Rattle.kc_possible.proofs.ranges.are_bounded.Goals as goal

pub definitions-init : goal.definitions-init
definitions-init c =
    let p = c.args.p.now in
    let l = p.laid.layout.now in
    let row = c.args.row.now in
    record {
      whole = λ known h some. subst (λ (ds : List DefinitionFacts). IsBounded p.laid.tree.now known row.symbol_type c.args.text.now ds) (all-left l c.args.id row c.requires) some;
      walk = walk-begins l c.args.id row c.requires;
    }

pub definitions-smaller : goal.definitions-smaller
definitions-smaller c =
    let at = c.definitions.at.0 in
    (next-is c.args.p.now.laid.layout.now c.args.id at c.place.result.next.0 (sym c.is_some.ensures ∙ c.definitions-test.true) c.definitions.invariant.walk (ap (λ (x : EntryPlace). x.next.0) c.place.ensures)).smaller

pub definitions-preserved : goal.definitions-preserved
definitions-preserved c =
    let p = c.args.p.now in
    let l = p.laid.layout.now in
    let id = c.args.id in
    let at = c.definitions.at.0 in
    let next = next-is l id at c.place.result.next.0 (sym c.is_some.ensures ∙ c.definitions-test.true) c.definitions.invariant.walk (ap (λ (x : EntryPlace). x.next.0) c.place.ensures) in
    record {
      whole = λ known h some. c.definitions.invariant.whole known h
          (bounded-next p.laid.tree.now known l id c.args.row.now.symbol_type c.args.text.now at c.place.result.next.0 next
          (sym c.has_plain_range.ensures ∙ c.if-not-has_plain_range.false) (c.all_exclude.ensures c.if-not-all_exclude.false known h) some);
      walk = next.walk;
    }

pub returns : goal.returns
returns c = λ told known h.
    let p = c.args.p.now in
    let l = p.laid.layout.now in
    let tree = p.laid.tree.now in
    let k = c.args.row.now.symbol_type in
    c.definitions.invariant.whole known h
    (subst (λ (ds : List DefinitionFacts). IsBounded tree known k c.args.text.now ds) (sym (walk-ends l c.args.id c.definitions.at.0 (sym c.is_some.ensures ∙ c.definitions-test.false)))
    (bounded-none tree known l c.args.id k c.args.text.now))
