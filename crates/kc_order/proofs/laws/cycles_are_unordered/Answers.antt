use Rattle.std.proofs.Common.{length}
use Rattle.kc_language.specs.Needs.{needs_in}
use Rattle.kc_order.proofs.Rings.{cycle_of}
use Rattle.kc_order.proofs.laws.cycles_are_unordered.Goals as goal

pub returns : goal.returns
returns c = λ needs way some goes back. cycle_of (length needs) (needs_in needs) way some goes back
