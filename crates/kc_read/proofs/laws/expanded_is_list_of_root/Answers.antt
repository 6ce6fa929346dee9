-- Why `expanded_is_list_of_root` keeps its contract.
use Rattle.kc_read.proofs.ReplacedLemmas.{expanded_is_list_of}
use Rattle.kc_read.proofs.laws.expanded_is_list_of_root.Goals as goal

pub returns : goal.returns
returns c = expanded_is_list_of
