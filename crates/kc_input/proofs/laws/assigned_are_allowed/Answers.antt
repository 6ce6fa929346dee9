use Rattle.kc_input.proofs.AllowedLemmas.{assigned_allowed}
use Rattle.kc_input.proofs.laws.assigned_are_allowed.Goals as goal

pub returns : goal.returns
returns c = assigned_allowed
