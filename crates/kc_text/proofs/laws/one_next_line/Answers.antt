-- Why `one_next_line` keeps its contract.
use Rattle.kc_text.proofs.Joins.{one_next_line_law}
use Rattle.kc_text.proofs.laws.one_next_line.Goals as goal

pub returns : goal.returns
returns c = one_next_line_law
