use Rattle.std.proofs.Common.{length}
use Rattle.kc_language.specs.Needs.{needs_in}
use Rattle.kc_order.proofs.Rings.{is_closed}
use Rattle.kc_order.proofs.laws.named_loop_is_closed.Goals as goal

pub returns : goal.returns
returns c = λ sequence needs loop named. is_closed sequence (length needs) (needs_in needs) loop named
