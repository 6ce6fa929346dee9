use Rattle.kc_values.proofs.DifferingLines.{differing_allowed}
use Rattle.kc_values.proofs.laws.differing_are_allowed.Goals as goal

pub returns : goal.returns
returns c = differing_allowed
