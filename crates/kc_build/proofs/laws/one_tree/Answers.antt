use Rattle.kc_build.proofs.BuildLemmas.{one-tree}
use Rattle.kc_build.proofs.laws.one_tree.Goals as goal

pub returns : goal.returns
returns c = one-tree c.one_expansion.ensures
