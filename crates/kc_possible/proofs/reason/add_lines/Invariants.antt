-- The symbols found are always n.
use Rattle.kc_possible.specs.PartsOfPossible.{AreOff}
use Rattle.kc_possible.proofs.reason.add_lines.Given as goal

abbrev pub invariant-definitions : goal.invariant-definitions
invariant-definitions l = AreOff l.p l.found.items
