use Rattle.kc_include.proofs.LineLemmas.{name_found, name_at_front, name_nowhere}
use Rattle.kc_include.proofs.line.name_before.Goals as goal

pub returns-else-at-eq0 : goal.returns-else-at-eq0
returns-else-at-eq0 c = name_found c.args.end c.args.bytes.now c.in-Some.at c.if-at-eq0.false c.in-Some.ensures.0 c.in-Some.ensures.1

pub returns-then-at-eq0 : goal.returns-then-at-eq0
returns-then-at-eq0 c = name_at_front c.args.end c.args.bytes.now c.in-Some.at c.if-at-eq0.true c.in-Some.ensures.0 c.in-Some.ensures.1

pub returns-in-None : goal.returns-in-None
returns-in-None c = name_nowhere c.args.end c.args.bytes.now c.in-None.ensures
