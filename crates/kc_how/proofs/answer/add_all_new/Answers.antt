-- Each of them is off.
use Rattle.std.proofs.lemmas.List.Elements.{All-get_or}
use Rattle.kc_possible.specs.Possible.{IsOff}
use Rattle.kc_how.proofs.answer.add_all_new.Goals as goal

pub add_new-requires-clause-off : goal.add_new-requires-clause-off
add_new-requires-clause-off c = All-get_or (IsOff c.args.p.now.laid.tree.now) c.args.more.now c.loop-id.id-index (record { 0 = 0 }) c.loop-id-test.true c.requires.more
