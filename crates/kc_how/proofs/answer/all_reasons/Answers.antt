-- Those that stand in the way of a symbol are off.
use Rattle.std.proofs.Common.{All, subst, sym}
use Rattle.kc_possible.specs.Possible.{IsOff}
use Rattle.kc_how.proofs.answer.all_reasons.Goals as goal

pub add_all_new-requires-clause-more : goal.add_all_new-requires-clause-more
add_all_new-requires-clause-more c = subst (All (IsOff c.args.p.now.laid.tree.now)) (sym c.deref-in-reasons.ensures.value) c.in_ok-more.ensures
