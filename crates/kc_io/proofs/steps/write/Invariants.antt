use Rattle.std.proofs.Common.{[], length, take, ◌-◌, ◌≤◌}
use Rattle.kc_io.specs.{Log.{Leads, each_byte}, declared.device.Action.TheVariants.Write}
use Rattle.kc_io.proofs.steps.write.Given as goal

-- what was done is the bytes so far
abbrev pub invariant-loop-at : goal.invariant-loop-at
invariant-loop-at g l = record {
  within : l.at ≤ length l.bytes;
  log : Leads (each_byte (Write l.site) l.name (take l.at l.bytes)) [] (g.D.Device.log l.fn.device) (g.D.Device.log l.device);
}

abbrev pub decreases-loop-at : goal.decreases-loop-at
decreases-loop-at g l = length l.bytes - l.at
