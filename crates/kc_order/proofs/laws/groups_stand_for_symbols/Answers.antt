use Rattle.kc_order.proofs.Alike.{graph_within, symbols_first}
use Rattle.kc_order.proofs.laws.groups_stand_for_symbols.Goals as goal

pub returns-clause-within : goal.returns-clause-within
returns-clause-within c g is = graph_within g is

pub returns-clause-first : goal.returns-clause-first
returns-clause-first c g nodes is orders = symbols_first g nodes is orders
