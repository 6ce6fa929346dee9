-- The symbol is y, and the line.
use Rattle.kc_expr.specs.When.{when_view}
use Rattle.kc_explain.proofs.AlwaysLemmas.{raises_y}
use Rattle.kc_explain.proofs.always.raises_to_y.Goals as goal

pub returns : goal.returns
returns c h known allows =
    let is = c.is_exactly.ensures c.if-not-is_exactly.false _ (c.symbol.ensures.covers known allows) in
    (is, raises_y c.args.p.now.laid.tree.now known c.args.by (when_view c.args.when.now) is (c.has_value.ensures h known allows))
