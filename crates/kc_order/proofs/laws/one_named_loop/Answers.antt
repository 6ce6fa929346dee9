use Rattle.std.proofs.Common.{length}
use Rattle.kc_language.specs.Needs.{needs_in}
use Rattle.kc_order.proofs.OneLoop.{one_loop}
use Rattle.kc_order.proofs.laws.one_named_loop.Goals as goal

pub returns : goal.returns
returns c = λ sequence needs loop other a b. one_loop sequence (length needs) (needs_in needs) loop other a b
