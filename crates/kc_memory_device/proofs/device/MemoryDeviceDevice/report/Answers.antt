use Rattle.kc_memory_device.specs.Recorded.{first_held}
use Rattle.kc_memory_device.proofs.RecordLemmas.{leads_words}
use Rattle.kc_memory_device.proofs.device.MemoryDeviceDevice.report.Goals as goal

pub returns-in-Ok-clause-log : goal.returns-in-Ok-clause-log
returns-in-Ok-clause-log c = leads_words (first_held c.args.self.now.first.now) _ _ _ _ c.in-Ok.ensures
