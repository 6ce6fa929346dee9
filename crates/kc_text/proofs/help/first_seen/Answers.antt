-- Why `first_seen` keeps its contract.
use Rattle.kc_text.proofs.help.first_seen.Goals as goal

pub returns-in-Some-clause-known : goal.returns-in-Some-clause-known
returns-in-Some-clause-known c = c.in-Some.ensures.begins _ _ c.line_until.ensures.first
