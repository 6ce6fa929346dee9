use Rattle.kc_conf.proofs.AccountedLemmas.{nothing_lost}
use Rattle.kc_conf.proofs.laws.nothing_is_lost.Goals as goal

pub returns : goal.returns
returns c = nothing_lost c.trees_are_well_formed.ensures c.done_are_whole.ensures c.lines_give_in_turn.ensures
