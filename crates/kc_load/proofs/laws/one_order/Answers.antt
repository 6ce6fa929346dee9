-- The order in which names are asked for is there, it is one, and it holds what the first name reaches.
use Rattle.kc_load.proofs.{OneOrder.one_order, ReachedLemmas.{has_order, order_is_reached}}
use Rattle.kc_load.proofs.laws.one_order.Goals as goal

pub returns-clause-there : goal.returns-clause-there
returns-clause-there c = has_order

pub returns-clause-one : goal.returns-clause-one
returns-clause-one c = one_order

pub returns-clause-reached : goal.returns-clause-reached
returns-clause-reached c = order_is_reached
