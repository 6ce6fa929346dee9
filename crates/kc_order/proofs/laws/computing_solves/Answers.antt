use Rattle.std.proofs.Common.{length}
use Rattle.kc_language.specs.Needs.{needs_in}
use Rattle.kc_order.proofs.ByOrder.{computed_solves}
use Rattle.kc_order.proofs.laws.computing_solves.Goals as goal

pub returns : goal.returns
returns g c = λ needs symbols rhs is reads values steps. computed_solves (length needs) (needs_in needs) symbols is rhs reads values steps
