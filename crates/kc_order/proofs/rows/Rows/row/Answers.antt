use Rattle.std.proofs.Common.{ap, arith, length, ◌∙◌}
use Rattle.kc_order.specs.Rows.{begin}
use Rattle.kc_order.proofs.{OneList.{IsRow, is_row, rows_len}, rows.Rows.row.Goals.After-index}
use Rattle.kc_order.proofs.rows.Rows.row.Goals as goal

pub beginning-begin-requires : goal.beginning-begin-requires
beginning-begin-requires c =
    omega (arith, c.deref.ensures.len, c.self.inside.ends.ok.0, ap length c.self.view_is, rows_len c.self.inside.numbers.items 0 c.self.inside.ends.items)

pub index-requires : goal.index-requires
index-requires c =
    omega (arith, c.self.inside.ends.ok.0, ap length c.self.view_is, rows_len c.self.inside.numbers.items 0 c.self.inside.ends.items)

-- the part between the two places is the row
part : (c : After-index) → IsRow c.self.inside.numbers.items c.args.self.now c.args.row c.beginning-begin.result c.index.result.now
part c =
    is_row c.self.inside.numbers.items c.self.inside.ends.items c.args.self.now c.args.row c.beginning-begin.result c.index.result.now
    c.self.invariant c.self.view_is c.requires
    (c.beginning-begin.ensures ∙ ap (λ ends. begin 0 ends c.args.row) c.deref.ensures.value) c.index.ensures

pub between-requires-clause-goes_up : goal.between-requires-clause-goes_up
between-requires-clause-goes_up c = (part (goal.at.between-requires-clause-goes_up c).After-index).goes_up

pub between-requires-clause-within : goal.between-requires-clause-within
between-requires-clause-within c = rw c.deref-2.ensures.value (part (goal.at.between-requires-clause-within c).After-index).within

pub returns : goal.returns
returns c = rw (c.between.ensures, c.deref-2.ensures.value) (part (goal.at.returns c).After-index).holds
