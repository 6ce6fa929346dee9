use Rattle.std.proofs.Common.{take}
use Rattle.kc_order.specs.FirstUnordered.{ArePlaces}
use Rattle.kc_order.proofs.named_loop.unordered_places.Given as goal

abbrev pub invariant-loop-place : goal.invariant-loop-place
invariant-loop-place l = ArePlaces (take l.place l.sequence) l.states l.places.items
