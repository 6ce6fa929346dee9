use Rattle.std.proofs.Common.{◌≡◌, ◌++◌, take}
use Rattle.std.specs.List.{flat_map}
use Rattle.kc_memory_device.proofs.device.say.Given as goal

-- the parts so far were said
abbrev pub invariant-loop-part : goal.invariant-loop-part
invariant-loop-part l = l.said.items ≡ l.fn.said.items ++ flat_map (λ part. part.now) (take l.part-index l.parts)
