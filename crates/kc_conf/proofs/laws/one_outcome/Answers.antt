-- There is at most one outcome.
use Rattle.kc_conf.proofs.Once.{one_outcome_law}
use Rattle.kc_conf.proofs.laws.one_outcome.Goals as goal

pub returns : goal.returns
returns c = one_outcome_law c.one_answer.ensures
