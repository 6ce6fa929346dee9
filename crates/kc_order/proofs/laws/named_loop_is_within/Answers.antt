use Rattle.kc_order.proofs.Rings.{loop_within}
use Rattle.kc_order.proofs.laws.named_loop_is_within.Goals as goal

pub returns : goal.returns
returns c = λ sequence needs loop named. loop_within sequence needs loop named
