-- The map that loading gives is there, and it is one.
use Rattle.kc_load.proofs.{MapExists.map_exists, OneMap.one_map}
use Rattle.kc_load.proofs.laws.one_map.Goals as goal

pub returns-clause-there : goal.returns-clause-there
returns-clause-there c = map_exists

pub returns-clause-one : goal.returns-clause-one
returns-clause-one c = one_map
