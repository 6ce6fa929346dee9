-- What the check left open in `one_expansion`.
use Rattle.kc_read.proofs.OneExpansion.{one_expansion_law}
use Rattle.kc_read.proofs.laws.one_expansion.Goals as goal

pub returns : goal.returns
returns c = one_expansion_law
