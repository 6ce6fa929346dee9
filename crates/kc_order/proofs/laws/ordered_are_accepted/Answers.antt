use Rattle.std.proofs.Common.{length}
use Rattle.kc_language.specs.Needs.{needs_in}
use Rattle.kc_order.proofs.ByOrder.{nothing_unordered}
use Rattle.kc_order.proofs.laws.ordered_are_accepted.Goals as goal

pub returns : goal.returns
returns c = λ needs symbols is. nothing_unordered (length needs) (needs_in needs) symbols is
