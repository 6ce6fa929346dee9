use Rattle.std.proofs.Common.{sym, ◌∙◌}
use Rattle.kc_possible.specs.PartsOfPossible.{facts_in}
use Rattle.kc_possible.proofs.RangeLemmas.{never-text, not-empty}
use Rattle.kc_possible.proofs.ranges.is_out_of_range.Goals as goal

pub returns-then-not-is_empty : goal.returns-then-not-is_empty
returns-then-not-is_empty c told user known h =
    let p = c.args.p.now in
    let t = c.args.text.now in
    let f = facts_in p c.args.id c.args.row.now in
    let bounded = c.are_bounded.ensures told known h in
    never-text p.laid.tree.now known c.args.id f user t c.in-Int.is (not-empty t (sym c.is_empty.ensures ∙ c.if-not-is_empty.true))
    (record { outside = bounded.outside; silent = bounded.silent })
