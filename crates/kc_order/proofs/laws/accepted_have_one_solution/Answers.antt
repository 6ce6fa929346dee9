use Rattle.std.proofs.Common.{length}
use Rattle.kc_language.specs.Needs.{needs_in}
use Rattle.kc_order.proofs.OneSolution.{exists}
use Rattle.kc_order.proofs.laws.accepted_have_one_solution.Goals as goal

pub returns : goal.returns
returns g c = λ needs rhs below free reads a. exists a (length needs) (needs_in needs) rhs below reads free
