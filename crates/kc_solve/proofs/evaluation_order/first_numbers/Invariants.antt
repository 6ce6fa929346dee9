use Rattle.std.proofs.Common.{◌≡◌, map, take}
use Rattle.kc_solve.proofs.evaluation_order.first_numbers.Given as goal

abbrev pub invariant-loop-id : goal.invariant-loop-id
invariant-loop-id l = l.numbers.items ≡ map (λ s. s.0) (take l.id-index l.defined)
