use Rattle.std.proofs.Common.{List, Option, None, Some, ap, false, not, refl, sym, true, ◌∙◌, ◌≡◌}
use Rattle.std.specs.{List.{filter_map, list_any}, Option.is_none, Prelude.option_map}
use Rattle.kc_entries.specs.declared.entries.AttributeLine.{AttributeLine}
use Rattle.kc_language.specs.Symbols.{range_in}
use Rattle.kc_tree.specs.{EntryViews.statements_of, LineParts.range_said}
use Rattle.kc_possible.specs.Ranges.{is_plain}
use Rattle.kc_possible.proofs.{RangeWalks.{plain-end, plain-line, plain-quiet}, ranges.has_plain_range.Goals.{in-Some+else-is_none, in_default}}
use Rattle.kc_possible.proofs.ranges.has_plain_range.Goals as goal

same-none : {X Y : Type 0} (f : X → Y) (o : Option X) → is_none (option_map f o) ≡ is_none o
same-none f None = refl
same-none f (Some x) = refl

pub loop-line-preserved : goal.loop-line-preserved
loop-line-preserved c =
    let ls = c.attributes-line-items.result.now in
    let i = c.loop-line.line-index in
    elim c.match-range_of.branch [
      | in-Some+else-is_none w ↦
          sym (plain-line ls i c.line-item.result (range_said w.in-Some.range.now) false c.loop-line-test.true c.line-item.is w.in-Some.ensures
          (same-none _ w.in-Some.range.now.when ∙ ap not w.is_none.ensures ∙ ap (λ b. not (not b)) w.if-is_none.false))
          ∙ c.loop-line.invariant
      | in_default w ↦ sym (plain-quiet ls i c.line-item.result c.loop-line-test.true c.line-item.is w.in_default.ensures) ∙ c.loop-line.invariant
    ]

pub returns-then-is_none : goal.returns-then-is_none
returns-then-is_none c =
    let ls = c.attributes-line-items.result.now in
    sym (plain-line ls c.loop-line.line-index c.line-item.result (range_said c.in-Some.range.now) true c.loop-line-test.true c.line-item.is c.in-Some.ensures
    (same-none _ c.in-Some.range.now.when ∙ ap not c.is_none.ensures ∙ ap (λ b. not (not b)) c.if-is_none.true))
    ∙ c.loop-line.invariant
    ∙ ap (λ (r : List AttributeLine). list_any is_plain (filter_map range_in (statements_of r))) c.attributes-line-items.ensures

pub returns : goal.returns
returns c =
    let ls = c.attributes-line-items.result.now in
    sym (plain-end ls c.loop-line.line-index c.loop-line-test.false)
    ∙ c.loop-line.invariant
    ∙ ap (λ (r : List AttributeLine). list_any is_plain (filter_map range_in (statements_of r))) c.attributes-line-items.ensures
