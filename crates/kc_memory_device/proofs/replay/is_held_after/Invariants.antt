use Rattle.std.proofs.Common.{[], fold, take, ◌≡◌}
use Rattle.kc_io.specs.Log.{after}
use Rattle.kc_memory_device.specs.{Recorded.{events_of, first_held}, Sights.seen, Stripped.seen_at}
use Rattle.kc_memory_device.proofs.replay.is_held_after.Given as goal

-- what is to come is that after the calls so far
abbrev pub invariant-loop-call : goal.invariant-loop-call
invariant-loop-call l = seen l.sight ≡ seen_at l.bytes (fold (after l.name) (record { held = first_held l.fn.first l.name; beside = [] }) (events_of (take l.call-index l.records)))
