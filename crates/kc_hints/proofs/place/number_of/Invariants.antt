-- The number of the digits so far goes on with those behind.
use Rattle.std.proofs.Common.{◌≡◌, drop}
use Rattle.kc_hints.specs.Facts.{number_from}
use Rattle.kc_hints.proofs.place.number_of.Given as goal

abbrev pub invariant-loop-digit : goal.invariant-loop-digit
invariant-loop-digit l = number_from l.number (drop l.digit-index l.digits) ≡ number_from 0 l.digits
