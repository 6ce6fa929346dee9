-- One list has one item more.
use Rattle.std.proofs.Common.{arith}
use Rattle.kc_user.proofs.ListSteps.{one_longer}
use Rattle.kc_user.proofs.lists.Lists.add.Goals as goal

pub returns : goal.returns
returns g c =
    one_longer c.self.inside.lists.items c.args.number c.index_mut.result.now c.push.new.self c.args.item c.args.self.now (omega (arith, c.if-number-len.false)) c.index_mut.ensures.value
    c.in_ok-push.ensures.items c.self.view_is
