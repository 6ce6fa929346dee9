-- Why `one_statement` keeps its contract.
use Rattle.kc_read.proofs.LineThere.{one_statement_law}
use Rattle.kc_read.proofs.laws.one_statement.Goals as goal

pub returns : goal.returns
returns c = one_statement_law
