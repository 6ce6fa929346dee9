use Rattle.kc_memory_device.specs.Recorded.{first_held}
use Rattle.kc_memory_device.proofs.ToldLemmas.{opened_is}
use Rattle.kc_memory_device.proofs.device.MemoryDevice.find.Goals as goal

pub returns-in-Ok-Some-clause-file : goal.returns-in-Ok-Some-clause-file
returns-in-Ok-Some-clause-file c =
    let self = c.args.self.now in
    opened_is (first_held self.first.now) self.records self.said.items c.args.name.now c.in-Ok-Some.bytes.items c.is_some.result c.is_some.ensures (rw c.in-Ok-Some.field-0-is at c.in-Ok-Some.ensures)
