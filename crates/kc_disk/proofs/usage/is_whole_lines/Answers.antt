-- The last byte says it.
use Rattle.kc_disk.proofs.UsageLemmas.{whole-last}
use Rattle.kc_disk.proofs.usage.is_whole_lines.Goals as goal

pub returns-in-len1-up : goal.returns-in-len1-up
returns-in-len1-up c = whole-last c.args.bytes.now c.in-len1-up.len_at_least
