use Rattle.kc_conf.proofs.RerunLemmas.{done_whole}
use Rattle.kc_conf.proofs.laws.done_are_whole.Goals as goal

pub returns : goal.returns
returns c = done_whole
