-- No value of the symbols so far is lost.
use Rattle.std.proofs.Common.{◌≡◌, length, take}
use Rattle.std.specs.Prelude.{filter}
use Rattle.kc_how.specs.FixCosts.{is_lost}
use Rattle.kc_how.proofs.text.loses_nothing.Given as goal

abbrev pub invariant-loop-id : goal.invariant-loop-id
invariant-loop-id l = length (filter (is_lost l.question l.fix) (take l.id-index l.id-items)) ≡ 0
