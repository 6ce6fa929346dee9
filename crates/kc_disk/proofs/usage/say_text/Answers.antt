-- It is whole lines, with what ends the last one.
use Rattle.std.proofs.Common.{append-nil}
use Rattle.kc_disk.proofs.UsageLemmas.{ended-whole}
use Rattle.kc_disk.proofs.usage.say_text.Goals as goal

pub report-requires : goal.report-requires
report-requires g c = rw (append-nil, c.end_of.ensures, c.as_bytes.ensures.value, c.as_bytes-2.ensures.value) (ended-whole c.args.text.now)

pub returns : goal.returns
returns g c = (c.report.result, rw (append-nil, c.end_of.ensures, c.as_bytes.ensures.value, c.as_bytes-2.ensures.value) at c.report.ensures.log)
