use Rattle.kc_values.proofs.TreeNeeds.{needs_within}
use Rattle.kc_values.proofs.laws.needs_are_symbols.Goals as goal

pub returns : goal.returns
returns c = needs_within
