-- The symbols found are always n.
use Rattle.kc_possible.specs.PartsOfPossible.{AreOff}
use Rattle.kc_possible.proofs.reason.add_entry.Given as goal

abbrev pub invariant-loop-line : goal.invariant-loop-line
invariant-loop-line l = AreOff l.p l.found.items
