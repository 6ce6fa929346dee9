-- Where nothing is kept, it is so for each tree.
use Rattle.kc_conf.proofs.many.kept_between.Goals as goal

pub returns-else-count-gt-FEW_CONFIGURATIONS : goal.returns-else-count-gt-FEW_CONFIGURATIONS
returns-else-count-gt-FEW_CONFIGURATIONS c = c.never.ensures c.args.accepted.now.laid
