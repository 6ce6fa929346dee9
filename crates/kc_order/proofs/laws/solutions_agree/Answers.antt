use Rattle.std.proofs.Common.{length}
use Rattle.kc_language.specs.Needs.{needs_in}
use Rattle.kc_order.proofs.Unique.{only}
use Rattle.kc_order.proofs.laws.solutions_agree.Goals as goal

pub returns : goal.returns
returns g c = λ needs rhs below free reads V v. only (length needs) (needs_in needs) rhs below reads free V v
