-- A configuration leaves one part, which its own run leaves behind the tree's warnings.
use Rattle.kc_conf.proofs.PartOutcomes.{exactly_one_part_law, parts_are_of_runs_law}
use Rattle.kc_conf.proofs.laws.exactly_one_part.Goals as goal

pub returns-clause-one : goal.returns-clause-one
returns-clause-one c = exactly_one_part_law c.one_answer.ensures c.one_outcome.ensures c.exactly_one_outcome.ensures

pub returns-clause-alone : goal.returns-clause-alone
returns-clause-alone c = parts_are_of_runs_law c.one_answer.ensures c.one_outcome.ensures c.exactly_one_outcome.ensures
