use Rattle.std.proofs.Common.{length}
use Rattle.kc_language.specs.Needs.{needs_in}
use Rattle.kc_order.proofs.{LoopThere.{loop_there, nothing_or_some}, Rings.some_unordered}
use Rattle.kc_order.proofs.laws.unordered_have_a_loop.Goals as goal

pub returns-clause-either : goal.returns-clause-either
returns-clause-either c = λ needs. nothing_or_some (length needs) (needs_in needs)

pub returns-clause-back : goal.returns-clause-back
returns-clause-back c = some_unordered

pub returns-clause-named : goal.returns-clause-named
returns-clause-named c = λ sequence needs holds within. loop_there sequence needs holds within
