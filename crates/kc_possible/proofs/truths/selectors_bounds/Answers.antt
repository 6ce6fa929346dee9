use Rattle.std.proofs.Common.{refl}
use Rattle.kc_possible.proofs.{SeenLemmas.{seen-all, seen-more, seen-none}, SelectorWalks.{next-is, values-next, values-none}}
use Rattle.kc_possible.proofs.truths.selectors_bounds.Goals as goal

pub lines-init : goal.lines-init
lines-init c = λ w s h. (h, λ known allowed. seen-none c.exactly-greatest.result _ _ c.exactly-greatest.ensures.within refl)

pub lines-preserved : goal.lines-preserved
lines-preserved c = λ w s h.
    let p = c.args.p.now in
    let l = p.laid.layout.now in
    let at = c.lines.at.0 in
    let r = c.in-Some.line.now in
    let before = c.lines.invariant w s h in
    let next = next-is l w s at r c.in-Some.ensures (before.0) in (
      next.line,
      λ known allowed.
          seen-more c.lines.greatest c.selector_bounds.result c.greater-greatest.result _ _ _ _ c.greater-greatest.ensures (c.selector_bounds.ensures known allowed)
          (values-next l w s p.laid.tree.now known at r next) (before.1 known allowed),
    )

pub lines-smaller : goal.lines-smaller
lines-smaller c =
    let w = c.requires.0 in
    let s = c.requires.1 in
    let before = c.lines.invariant w s (c.requires.2) in
    (next-is c.args.p.now.laid.layout.now w s c.lines.at.0 c.in-Some.line.now c.in-Some.ensures (before.0)).smaller

pub returns : goal.returns
returns c = λ w s h known allowed.
    let p = c.args.p.now in
    let before = c.lines.invariant w s h in
    seen-all c.lines.greatest _ _ (values-none p.laid.layout.now w s p.laid.tree.now known c.lines.at.0 c.in_default.ensures (before.0)) (before.1 known allowed)
