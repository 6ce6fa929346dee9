-- The symbols found are always n.
use Rattle.kc_possible.specs.PartsOfPossible.{AreOff}
use Rattle.kc_possible.proofs.reason.add_all.Given as goal

abbrev pub invariant-loop-id : goal.invariant-loop-id
invariant-loop-id l = AreOff l.p l.found.items
