-- The symbols found are always n.
use Rattle.kc_possible.specs.PartsOfPossible.{AreOff}
use Rattle.kc_possible.proofs.reason.add_context.Given as goal

abbrev pub invariant-around : goal.invariant-around
invariant-around l = AreOff l.p l.found.items
