use Rattle.kc_input.proofs.BlankLemmas.{split_found, split_at_front, split_nowhere}
use Rattle.kc_input.proofs.line.split_at_equals.Goals as goal

pub returns-else-at-eq0 : goal.returns-else-at-eq0
returns-else-at-eq0 c = split_found c.args.text.now c.in-Some.at c.if-at-eq0.false c.in-Some.ensures.0 c.in-Some.ensures.1

pub returns-then-at-eq0 : goal.returns-then-at-eq0
returns-then-at-eq0 c = split_at_front c.args.text.now c.in-Some.at c.if-at-eq0.true c.in-Some.ensures.0 c.in-Some.ensures.1

pub returns-in-None : goal.returns-in-None
returns-in-None c = split_nowhere c.args.text.now c.in-None.ensures
