use Rattle.std.proofs.Common.{sym, subst}
use Rattle.kc_order.specs.Rows.{RowsBelow}
use Rattle.kc_order.proofs.OneList.{below_rows, below_numbers}
use Rattle.kc_order.proofs.rows.Rows.are_below.Goals as goal

pub returns : goal.returns
returns c =
    let numbers = c.self.inside.numbers.items in
    let ends = c.self.inside.ends.items in
    let both = rw c.deref.ensures.value at c.all_below.ensures in (
      λ t. subst (RowsBelow c.args.bound) c.self.view_is (below_rows c.args.bound numbers 0 ends (both.0 t)),
      λ b. both.1 (below_numbers c.args.bound numbers ends c.self.invariant (subst (RowsBelow c.args.bound) (sym c.self.view_is) b)),
    )
