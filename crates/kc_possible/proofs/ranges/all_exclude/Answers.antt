use Rattle.std.proofs.Common.{List, subst}
use Rattle.std.specs.List.{AllByRecursion, filter_map}
use Rattle.kc_entries.specs.declared.entries.AttributeLine.{AttributeLine}
use Rattle.kc_language.specs.Symbols.{range_in}
use Rattle.kc_tree.specs.{EntryViews.statements_of, LineParts.range_said}
use Rattle.kc_possible.specs.Ranges.{IsExcluded}
use Rattle.kc_possible.proofs.{RangeWalks.{all-end, all-line, all-quiet}, ranges.all_exclude.Goals.{in-Some+else-not-excludes, in_default}}
use Rattle.kc_possible.proofs.ranges.all_exclude.Goals as goal

pub loop-line-preserved : goal.loop-line-preserved
loop-line-preserved c = λ known h rest.
    let P = IsExcluded known c.args.symbol_type c.args.text.now in
    let ls = c.attributes-line-items.result.now in
    let i = c.loop-line.line-index in
    c.loop-line.invariant known h
    (elim c.match-range_of.branch [
      | in-Some+else-not-excludes w ↦
          all-line ls P i c.line-item.result (range_said w.in-Some.range.now) c.loop-line-test.true c.line-item.is w.in-Some.ensures (w.excludes.ensures w.if-not-excludes.false known h) rest
      | in_default w ↦ all-quiet ls P i c.line-item.result c.loop-line-test.true c.line-item.is w.in_default.ensures rest
    ])

pub returns : goal.returns
returns c = λ told known h.
    let P = IsExcluded known c.args.symbol_type c.args.text.now in
    let ls = c.attributes-line-items.result.now in
    subst (λ (r : List AttributeLine). AllByRecursion P (filter_map range_in (statements_of r))) c.attributes-line-items.ensures
    (c.loop-line.invariant known h (all-end ls P c.loop-line.line-index c.loop-line-test.false))
