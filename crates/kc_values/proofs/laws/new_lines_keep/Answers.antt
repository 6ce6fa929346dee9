use Rattle.kc_values.proofs.NewLines.{new_lines_keep}
use Rattle.kc_values.proofs.laws.new_lines_keep.Goals as goal

pub returns : goal.returns
returns c = new_lines_keep
