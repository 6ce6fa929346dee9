-- Those so far are off.
use Rattle.std.proofs.Common.{All}
use Rattle.kc_possible.specs.Possible.{IsOff}
use Rattle.kc_how.proofs.answer.add_all_new.Given as goal

abbrev pub invariant-loop-id : goal.invariant-loop-id
invariant-loop-id l = All (IsOff l.p.laid.tree.now) l.found.items
