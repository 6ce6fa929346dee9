-- Why `has_one_expansion` keeps its contract.
use Rattle.kc_read.proofs.ExpansionThere.{has_one_expansion}
use Rattle.kc_read.proofs.laws.has_one_expansion.Goals as goal

pub returns : goal.returns
returns c = has_one_expansion
