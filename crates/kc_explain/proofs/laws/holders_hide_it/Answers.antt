-- The law is that of the chapter Explanations.
use Rattle.kc_explain.proofs.laws.holders_hide_it.Goals as goal
use Rattle.kc_outcome.proofs.HoldersHideIt.{holders_hide_it}

pub returns : goal.returns
returns c = holders_hide_it
