-- The symbols found are always n.
use Rattle.kc_possible.specs.PartsOfPossible.{AreOff}
use Rattle.kc_possible.proofs.reason.add_selectors.Given as goal

abbrev pub invariant-lines : goal.invariant-lines
invariant-lines l = AreOff l.p l.found.items
