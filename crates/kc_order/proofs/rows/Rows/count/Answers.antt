use Rattle.std.proofs.Common.{arith, ap, length}
use Rattle.kc_order.proofs.OneList.{rows_len}
use Rattle.kc_order.proofs.rows.Rows.count.Goals as goal

pub returns : goal.returns
returns c =
    omega (arith, c.len.ensures, ap length c.self.view_is, rows_len c.self.inside.numbers.items 0 c.self.inside.ends.items, c.self.inside.ends.ok.0)
