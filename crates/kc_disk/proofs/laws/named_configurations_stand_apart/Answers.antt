use Rattle.kc_disk.proofs.LeavesLemmas.{named_stand_apart_law}
use Rattle.kc_disk.proofs.laws.named_configurations_stand_apart.Goals as goal

pub returns : goal.returns
returns c = named_stand_apart_law c.looking_keeps.ensures
