use Rattle.kc_input.proofs.LineLaws.{in_turn}
use Rattle.kc_input.proofs.laws.lines_give_in_turn.Goals as goal

pub returns : goal.returns
returns c = in_turn
