use Rattle.std.proofs.Common.{ap, subst, sym, ◌∙◌}
use Rattle.std.specs.{List.filter_map, Prelude.map}
use Rattle.kc_language.specs.{Symbols.stated_default, Values.{default_value, first_met}}
use Rattle.kc_tree.specs.{Layouts.{condition_at, default_view, said_at}, declared.rows.EntryPlace.EntryPlace}
use Rattle.kc_possible.specs.{Bounds.IsWithin, PartsOfPossible.{facts_in, greatest_default}, declared.bounds.Bounds.Bounds}
use Rattle.kc_possible.proofs.{DefaultLemmas.met-below, DefinitionWalks.{all-left, defaults-next, defaults_of, next-is, walk-begins, walk-ends}, SeenLemmas.{seen-all, seen-more, seen-none}, TruthLemmas.{above-trans, to-high, within-by}}
use Rattle.kc_possible.proofs.truths.default_value_bounds.Goals as goal

pub definitions-init : goal.definitions-init
definitions-init c =
    let p = c.args.p.now in
    let l = p.laid.layout.now in
    let id = c.args.id in
    let row = c.args.row.now in
    record {
      seen = λ known h.
          let all = ap (defaults_of l id p.laid.tree.now known) (all-left l id row c.requires) in
          seen-none c.exactly-greatest.result _ _ c.exactly-greatest.ensures.within all;
      walk = walk-begins l id row c.requires;
    }

pub definitions-preserved : goal.definitions-preserved
definitions-preserved c =
    let p = c.args.p.now in
    let l = p.laid.layout.now in
    let id = c.args.id in
    let at = c.definitions.at.0 in
    let next = next-is l id at c.place-place.result.next.0 (sym c.is_some.ensures ∙ c.definitions-test.true) c.definitions.invariant.walk (ap (λ (x : EntryPlace). x.next.0) c.place-place.ensures) in
    record {
      seen = λ known h.
          let tree = p.laid.tree.now in
          let found = subst (λ (x : EntryPlace). IsWithin c.defaults_of.result (greatest_default tree known (map (default_view (condition_at l x.context.0)) (filter_map stated_default (said_at l at))))) c.place-place.ensures (c.defaults_of.ensures known h) in
          seen-more c.definitions.greatest c.defaults_of.result c.greater-greatest.result _ _ _ _ c.greater-greatest.ensures found
          (defaults-next l id tree known at c.place-place.result.next.0 next) (c.definitions.invariant.seen known h);
      walk = next.walk;
    }

pub definitions-smaller : goal.definitions-smaller
definitions-smaller c =
    let at = c.definitions.at.0 in
    (next-is c.args.p.now.laid.layout.now c.args.id at c.place-place.result.next.0 (sym c.is_some.ensures ∙ c.definitions-test.true) c.definitions.invariant.walk (ap (λ (x : EntryPlace). x.next.0) c.place-place.ensures)).smaller

pub returns : goal.returns
returns c = λ known h.
    let p = c.args.p.now in
    let l = p.laid.layout.now in
    let tree = p.laid.tree.now in
    let gs = (facts_in p c.args.id c.args.row.now).defaults in
    let none = ap (defaults_of l c.args.id tree known) (walk-ends l c.args.id c.definitions.at.0 (sym c.is_some.ensures ∙ c.definitions-test.false)) in
    let all = seen-all c.definitions.greatest _ _ none (c.definitions.invariant.seen known h) in
    let whole : Bounds = record { low = c.lowest_default.result; high = c.definitions.greatest.high } in
    within-by whole _ (c.lowest_default.ensures known h)
    (above-trans (default_value tree known (first_met tree known gs)) (greatest_default tree known gs) c.definitions.greatest.high (met-below tree known gs) (to-high c.definitions.greatest _ all))
