use Rattle.kc_conf.proofs.RerunLemmas.{outcomes_read_again}
use Rattle.kc_conf.proofs.laws.outcomes_are_read_again.Goals as goal

pub returns : goal.returns
returns c = outcomes_read_again c.done_are_whole.ensures c.texts_are_read_again.ensures
