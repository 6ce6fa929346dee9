-- The law is that of the chapter Explanations.
use Rattle.kc_explain.proofs.laws.holders_hold.Goals as goal
use Rattle.kc_outcome.proofs.HoldersHold.{holders_hold}

pub returns : goal.returns
returns c = holders_hold
