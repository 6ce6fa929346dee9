use Rattle.kc_text.proofs.Physicals.{first_ended, first_open}
use Rattle.kc_explain.proofs.statement_lines.first_read.Goals as goal

pub returns-in-Some-clause-first : goal.returns-in-Some-clause-first
returns-in-Some-clause-first c =
    let first = rw c.in-Some.is at c.find_byte.ensures in
    rw c.without_carriage_return.ensures (first_ended c.args.rest.now c.in-Some.at first.0 first.1)

pub returns-in-None-clause-first : goal.returns-in-None-clause-first
returns-in-None-clause-first c = first_open c.args.rest.now c.requires (rw c.in-None.is at c.find_byte.ensures)
