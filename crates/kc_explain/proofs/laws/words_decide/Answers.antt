-- The law is that of the chapter Explanations.
use Rattle.kc_explain.proofs.laws.words_decide.Goals as goal
use Rattle.kc_outcome.proofs.WordsDecide.{words_decide}

pub returns : goal.returns
returns c = words_decide
