-- Those so far are off.
use Rattle.std.proofs.Common.{All}
use Rattle.kc_possible.specs.Possible.{IsOff}
use Rattle.kc_how.proofs.answer.all_reasons.Given as goal

abbrev pub invariant-reasons : goal.invariant-reasons
invariant-reasons l = All (IsOff l.p.laid.tree.now) l.found.items
