use Rattle.kc_input.proofs.LineLaws.{line_by_line}
use Rattle.kc_input.proofs.laws.reading_goes_line_by_line.Goals as goal

pub returns : goal.returns
returns c = line_by_line
