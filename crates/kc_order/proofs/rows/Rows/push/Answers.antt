use Rattle.std.proofs.Common.{arith, length, ◌≡◌, ◌+◌, length-append}
use Rattle.kc_order.proofs.OneList.{rows_push, up_push}
use Rattle.kc_order.proofs.rows.Rows.push.Goals as goal

pub invariant_of-self-in_default : goal.invariant_of-self-in_default
invariant_of-self-in_default c =
    let numbers = c.self.inside.numbers.items in
    let number : c.len.result ≡ length numbers = omega (arith, c.self.inside.numbers.ok.0) in
    rw (c.in_default.ensures.items, c.in_ok-push.ensures.items, number, length-append numbers c.args.row.now)
    (up_push 0 (length numbers) (length numbers + length c.args.row.now) c.self.inside.ends.items c.self.invariant (omega arith))

pub returns-clause-added : goal.returns-clause-added
returns-clause-added c =
    let numbers = c.self.inside.numbers.items in
    let number : c.len.result ≡ length numbers = omega (arith, c.self.inside.numbers.ok.0) in
    rw (c.in_default.ensures.items, c.in_ok-push.ensures.items, ← c.self.view_is)
    (rows_push numbers c.args.row.now 0 (c.len.result + length c.args.row.now) c.self.inside.ends.items c.self.invariant (omega arith))
