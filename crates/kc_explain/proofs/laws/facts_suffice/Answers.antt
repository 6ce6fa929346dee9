-- The law is that of the chapter Explanations.
use Rattle.kc_explain.proofs.laws.facts_suffice.Goals as goal
use Rattle.kc_outcome.proofs.FactsSuffice.{facts_suffice}

pub returns : goal.returns
returns c = facts_suffice
