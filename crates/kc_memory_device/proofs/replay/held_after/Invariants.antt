use Rattle.std.proofs.Common.{[], fold, take, ◌≡◌}
use Rattle.kc_io.specs.Log.{after}
use Rattle.kc_memory_device.specs.{Recorded.{events_of, first_held}, Spots.spot_view}
use Rattle.kc_memory_device.proofs.replay.held_after.Given as goal

-- what stands is that after the calls so far
abbrev pub invariant-loop-call : goal.invariant-loop-call
invariant-loop-call l = spot_view l.stand ≡ fold (after l.name) (record { held = first_held l.first l.name; beside = [] }) (events_of (take l.call-index l.records))
