-- What the check left open in `longest_front_is_unique`.
use Rattle.kc_expr.proofs.LongestLemmas.{one_longest}
use Rattle.kc_expr.proofs.parse.longest_front_is_unique.Goals as goal

pub returns : goal.returns
returns c = one_longest
