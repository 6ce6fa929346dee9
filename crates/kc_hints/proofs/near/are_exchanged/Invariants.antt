-- Letters are exchanged in the names if they are in what is left of them.
use Rattle.std.proofs.Common.{◌≡◌, length}
use Rattle.kc_hints.specs.Near.{are_exchanged}
use Rattle.kc_hints.proofs.near.are_exchanged.Given as goal

abbrev pub invariant-letters : goal.invariant-letters
invariant-letters l = are_exchanged l.asked l.name ≡ are_exchanged l.fn.asked l.fn.name

abbrev pub decreases-letters : goal.decreases-letters
decreases-letters l = length l.asked
