use Rattle.kc_conf.proofs.DecideLemmas.{explanations_decide_law}
use Rattle.kc_conf.proofs.laws.explanations_decide.Goals as goal

pub returns : goal.returns
returns c = explanations_decide_law c.words_decide.ensures
