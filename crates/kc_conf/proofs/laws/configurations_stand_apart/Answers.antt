-- What one configuration leaves, no other one changes.
use Rattle.kc_conf.proofs.AmongLemmas.{each_leaves_its_part_law}
use Rattle.kc_conf.proofs.laws.configurations_stand_apart.Goals as goal

pub returns : goal.returns
returns g c = each_leaves_its_part_law _ _
