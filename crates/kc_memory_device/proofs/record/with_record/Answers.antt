use Rattle.kc_memory_device.proofs.RecordLemmas.{leads_record}
use Rattle.kc_memory_device.proofs.record.with_record.Goals as goal

pub returns : goal.returns
returns c = λ files said.
    leads_record files said c.args.records c.in-Some.records c.push.new.self (record { action = c.args.action; name = c.in_ok-name.name; bytes = c.in_ok-bytes.bytes; fault = c.args.fault }) _ _ c.in-Some.is c.in_ok-push.ensures.items c.in_ok-name.ensures.ok c.in_ok-bytes.ensures.items
