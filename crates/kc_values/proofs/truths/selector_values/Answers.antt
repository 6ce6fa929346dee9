use Rattle.std.proofs.Common.{ap, sym, ◌∙◌}
use Rattle.kc_language.specs.Expressions.{greater}
use Rattle.kc_values.proofs.{ChainLemmas.{chain-ends, next-is, values-step, values_left}, TriLemmas.greater_n}
use Rattle.kc_values.proofs.truths.selector_values.Goals as goal

pub lines-preserved : goal.lines-preserved
lines-preserved c = λ w s h.
    let t = c.args.table.now in
    let at = c.lines.at.0 in
    let r = c.in-Some.line.now in
    let before = c.lines.invariant w s h in
    let next = next-is t w s at r c.in-Some.ensures (before.0) in (
      next.line,
      ap (λ x. greater x (values_left t w s r.next.0)) c.greater-greatest.ensures
          ∙ values-step t w s at r c.lines.greatest c.selector_value.result _ next c.selector_value.ensures (before.1),
    )

pub lines-smaller : goal.lines-smaller
lines-smaller c =
    let w = c.requires.0 in
    let s = c.requires.1 in
    let before = c.lines.invariant w s (c.requires.2) in
    (next-is c.args.table.now w s c.lines.at.0 c.in-Some.line.now c.in-Some.ensures (before.0)).smaller

pub returns : goal.returns
returns c = λ w s h.
    let before = c.lines.invariant w s h in
    sym (greater_n c.lines.greatest)
    ∙ ap (greater c.lines.greatest) (sym (chain-ends c.args.table.now w s c.lines.at.0 c.in_default.ensures (before.0)))
    ∙ before.1
