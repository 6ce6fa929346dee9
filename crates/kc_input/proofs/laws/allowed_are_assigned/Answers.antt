use Rattle.kc_input.proofs.AssignLemmas.{allowed_assigned}
use Rattle.kc_input.proofs.laws.allowed_are_assigned.Goals as goal

pub returns : goal.returns
returns c = allowed_assigned
