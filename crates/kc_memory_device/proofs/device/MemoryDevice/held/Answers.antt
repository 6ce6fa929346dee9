use Rattle.kc_memory_device.proofs.ToldLemmas.{held_ok, held_told}
use Rattle.kc_memory_device.proofs.device.MemoryDevice.held.Goals as goal

pub returns-in-Some : goal.returns-in-Some
returns-in-Some c =
    held_ok c.held_after.result _ _ _ (rw c.deref.ensures.value at c.held_after.ensures) (held_told c.args.self.now.first.now c.args.self.now.records c.in-Some.records c.args.self.now.said.items c.args.name.now c.in-Some.is)
