-- Why `opened_are_one_list` keeps its contract.
use Rattle.kc_read.proofs.OpenedOnce as opened
use Rattle.kc_read.proofs.laws.opened_are_one_list.Goals as goal

pub returns : goal.returns
returns c = opened.opened_are_one_list
