use Rattle.std.proofs.Common.{◌∙◌}
use Rattle.kc_memory_device.proofs.ToldLemmas.{is_held_told}
use Rattle.kc_memory_device.proofs.device.MemoryDeviceDevice.holds.Goals as goal

pub returns-in-Some : goal.returns-in-Some
returns-in-Some c = λ journal known.
    rw c.deref.ensures.value at c.is_held_after.ensures
    ∙ is_held_told c.args.self.now.first.now c.args.self.now.records c.in-Some.records c.args.self.now.said.items c.args.name.now c.args.bytes.now c.in-Some.is journal known
