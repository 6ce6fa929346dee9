use Rattle.kc_conf.proofs.StrictLemmas.{strict_takes_all}
use Rattle.kc_conf.proofs.laws.strict_takes_all.Goals as goal

pub returns : goal.returns
returns c = strict_takes_all c.trees_are_well_formed.ensures c.done_are_whole.ensures c.lines_give_in_turn.ensures
