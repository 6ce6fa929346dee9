use Rattle.std.proofs.Common.{List, ap, map, refl, subst, sym, ◌+◌}
use Rattle.std.specs.List.{filter_map}
use Rattle.kc_entries.specs.declared.entries.AttributeLine.{AttributeLine}
use Rattle.kc_language.specs.Symbols.{stated_default}
use Rattle.kc_tree.specs.{EntryViews.statements_of, Layouts.{condition_at, default_view}, LineParts.default_said}
use Rattle.kc_possible.specs.{Bounds.IsWithin, PartsOfPossible.greatest_default, declared.bounds.Bounds.Bounds}
use Rattle.kc_possible.proofs.{DefaultLemmas.{from-end, from-line, from-quiet, greatest_from}, SeenLemmas.{IsSeen, seen-all, seen-more, seen-none}, truths.defaults_of.Goals.{in-Some, in_default}}
use Rattle.kc_possible.proofs.truths.defaults_of.Goals as goal

pub loop-line-init : goal.loop-line-init
loop-line-init c = λ known h. seen-none c.exactly-greatest.result _ _ c.exactly-greatest.ensures.within refl

pub loop-line-preserved : goal.loop-line-preserved
loop-line-preserved c = λ known h.
    let p = c.args.p.now in
    let tree = p.laid.tree.now in
    let view = default_view (condition_at p.laid.layout.now c.args.place.context.0) in
    let ls = c.attributes-line-items.result.now in
    let i = c.loop-line.line-index in
    let whole = greatest_from tree known view ls 0 in
    let next = greatest_from tree known view ls (i + 1) in
    elim c.match-stated_default.branch [
      | in-Some w ↦
          subst (λ (b : Bounds). IsSeen b next whole) (sym w.greatest-is)
          (seen-more c.loop-line.greatest w.default_bounds.result w.greater-greatest.result _ _ next whole w.greater-greatest.ensures (w.default_bounds.ensures known h)
          (from-line tree known view ls i c.line-item.result (default_said w.in-Some.default.now) c.loop-line-test.true c.line-item.is w.in-Some.ensures) (c.loop-line.invariant known h))
      | in_default w ↦
          subst (λ (b : Bounds). IsSeen b next whole) (sym w.greatest-is)
          (subst (λ t. IsSeen c.loop-line.greatest t whole) (from-quiet tree known view ls i c.line-item.result c.loop-line-test.true c.line-item.is w.in_default.ensures) (c.loop-line.invariant known h))
    ]

pub returns : goal.returns
returns c = λ known h.
    let p = c.args.p.now in
    let tree = p.laid.tree.now in
    let view = default_view (condition_at p.laid.layout.now c.args.place.context.0) in
    let ls = c.attributes-line-items.result.now in
    let worth = λ (r : List AttributeLine). greatest_default tree known (map view (filter_map stated_default (statements_of r))) in
    subst (λ t. IsWithin c.loop-line.greatest t) (ap worth c.attributes-line-items.ensures)
    (seen-all c.loop-line.greatest _ _ (from-end tree known view ls c.loop-line.line-index c.loop-line-test.false) (c.loop-line.invariant known h))
