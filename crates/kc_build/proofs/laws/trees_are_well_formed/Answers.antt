use Rattle.kc_build.proofs.NameLemmas.{trees-formed}
use Rattle.kc_build.proofs.laws.trees_are_well_formed.Goals as goal

pub returns : goal.returns
returns c = trees-formed
