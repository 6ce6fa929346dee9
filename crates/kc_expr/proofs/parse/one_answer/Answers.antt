-- Why `one_answer` keeps its contract.
use Rattle.kc_expr.proofs.OneAnswer.{one_answer_law}
use Rattle.kc_expr.proofs.parse.one_answer.Goals as goal

pub returns : goal.returns
returns c = one_answer_law
