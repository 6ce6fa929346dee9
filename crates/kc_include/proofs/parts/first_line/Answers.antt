use Rattle.kc_include.proofs.PartLemmas.{line-alone, line-found}
use Rattle.kc_include.proofs.parts.first_line.Goals as goal

pub returns-in-Some-clause-line : goal.returns-in-Some-clause-line
returns-in-Some-clause-line c = line-found c.args.rest.now c.in-Some.count c.in-Some.ensures.0 c.in-Some.ensures.1

pub returns-in-None-clause-line : goal.returns-in-None-clause-line
returns-in-None-clause-line c = line-alone c.args.rest.now c.in-None.ensures
