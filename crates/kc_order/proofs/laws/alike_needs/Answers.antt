use Rattle.kc_order.proofs.Alike.{accepted_alike, loop_alike}
use Rattle.kc_order.proofs.laws.alike_needs.Goals as goal

pub returns-clause-accepted : goal.returns-clause-accepted
returns-clause-accepted c needs other alike = accepted_alike needs other alike

pub returns-clause-named : goal.returns-clause-named
returns-clause-named c sequence needs other loop alike = loop_alike sequence needs other alike loop
