use Rattle.kc_values.proofs.DefinedNeeds.{needing_are_defined}
use Rattle.kc_values.proofs.laws.needing_are_defined.Goals as goal

pub returns : goal.returns
returns c = needing_are_defined
