use Rattle.std.proofs.Common.{length}
use Rattle.kc_language.specs.Needs.{needs_in}
use Rattle.kc_order.proofs.OneIteration.{iterations_solve}
use Rattle.kc_order.proofs.laws.iterations_solve.Goals as goal

pub returns : goal.returns
returns g c = λ needs rhs below free reads values iterations. iterations_solve (length needs) (needs_in needs) rhs below reads free values iterations
