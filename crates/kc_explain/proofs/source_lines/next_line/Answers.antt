use Rattle.kc_explain.proofs.SourceLineLemmas.{line_ended, line_open}
use Rattle.kc_explain.proofs.source_lines.next_line.Goals as goal

pub returns-in-Some : goal.returns-in-Some
returns-in-Some c =
    let first = rw c.in-Some.is at c.find_byte.ensures in
    line_ended c.args.rest.now c.in-Some.at first.0 first.1

pub returns-in-None : goal.returns-in-None
returns-in-None c = line_open c.args.rest.now (rw c.in-None.is at c.find_byte.ensures)
