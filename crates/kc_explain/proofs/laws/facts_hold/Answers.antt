-- The law is that of the chapter Explanations.
use Rattle.kc_explain.proofs.laws.facts_hold.Goals as goal
use Rattle.kc_outcome.proofs.FactsHold.{facts_hold}

pub returns : goal.returns
returns c = facts_hold
