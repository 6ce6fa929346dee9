use Rattle.std.proofs.Common.{◌≡◌, length}
use Rattle.kc_memory_device.specs.Recorded.{first_held}
use Rattle.kc_memory_device.proofs.replay.first_held.Given as goal

-- what is left is to be answered
abbrev pub invariant-loop-rest : goal.invariant-loop-rest
invariant-loop-rest l = first_held l.first l.name ≡ first_held l.rest l.name

abbrev pub decreases-loop-rest : goal.decreases-loop-rest
decreases-loop-rest l = length l.rest
