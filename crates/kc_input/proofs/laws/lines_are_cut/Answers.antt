use Rattle.kc_input.proofs.LineLaws.{lines_cut}
use Rattle.kc_input.proofs.laws.lines_are_cut.Goals as goal

pub returns : goal.returns
returns c = lines_cut
