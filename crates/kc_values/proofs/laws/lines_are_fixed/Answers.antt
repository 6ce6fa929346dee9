use Rattle.kc_values.proofs.FixedLines.{line_fixed_at}
use Rattle.kc_values.proofs.laws.lines_are_fixed.Goals as goal

pub returns : goal.returns
returns c tree user V i l solves t = line_fixed_at tree user V solves i l t
