-- What the check left open in `sourced_files_are_named`.
use Rattle.kc_read.proofs.OpenedFileLemmas.{sourced_are_named, has_one_list_of_names}
use Rattle.kc_read.proofs.laws.sourced_files_are_named.Goals as goal

pub returns : goal.returns
returns c = record { named = sourced_are_named; one_list = has_one_list_of_names }
