use Rattle.kc_values.proofs.NewSymbols.{new_symbols}
use Rattle.kc_values.proofs.laws.new_can_be_answered.Goals as goal

pub returns : goal.returns
returns c = new_symbols
