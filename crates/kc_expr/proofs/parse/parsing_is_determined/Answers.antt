-- What the check left open in `parsing_is_determined`.
use Rattle.kc_expr.proofs.LongestLemmas.{determined}
use Rattle.kc_expr.proofs.parse.parsing_is_determined.Goals as goal

pub returns : goal.returns
returns c = determined
