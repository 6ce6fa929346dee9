use Rattle.kc_conf.proofs.RerunLemmas.{minimal_run_again}
use Rattle.kc_conf.proofs.laws.minimal_is_run_again.Goals as goal

pub returns : goal.returns
returns c = minimal_run_again c.config_is_of_values.ensures c.one_answer.ensures c.done_are_whole.ensures c.texts_are_read_again.ensures
