-- Why `one_list_of` keeps its contract.
use Rattle.kc_read.proofs.ListOfLemmas as lists
use Rattle.kc_read.proofs.laws.one_list_of.Goals as goal

pub returns : goal.returns
returns c = lists.one_list_of
