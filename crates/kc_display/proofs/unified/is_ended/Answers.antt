-- The last byte says it.
use Rattle.kc_display.proofs.LineLemmas.{ended-last}
use Rattle.kc_display.proofs.unified.is_ended.Goals as goal

pub returns-in-len1-up : goal.returns-in-len1-up
returns-in-len1-up c = ended-last c.args.line.now c.in-len1-up.len_at_least
