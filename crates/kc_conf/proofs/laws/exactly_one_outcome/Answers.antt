-- There is an outcome, and no other.
use Rattle.kc_conf.proofs.laws.exactly_one_outcome.Goals as goal

pub returns : goal.returns
returns c files options all =
    let (outcome, is) = c.outcome_exists.ensures.outcome files options all in
    (outcome, is, λ other. c.one_outcome.ensures files options all outcome other is)
