-- Why `line_until` keeps its contract.
use Rattle.kc_text.proofs.Physicals.{first_ended, first_open}
use Rattle.kc_text.proofs.physical.line_until.Goals as goal

pub returns-in-Some-clause-first : goal.returns-in-Some-clause-first
returns-in-Some-clause-first c =
    let first = rw c.in-Some.is at c.requires.feed in
    rw c.without_carriage_return.ensures (first_ended c.args.rest.now c.in-Some.n first.0 first.1)

pub returns-in-None-clause-first : goal.returns-in-None-clause-first
returns-in-None-clause-first c = first_open c.args.rest.now c.requires.some (rw c.in-None.is at c.requires.feed)
