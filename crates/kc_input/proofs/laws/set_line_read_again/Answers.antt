use Rattle.kc_input.proofs.RoundTripLemmas.{set_read_again}
use Rattle.kc_input.proofs.laws.set_line_read_again.Goals as goal

pub returns : goal.returns
returns c = set_read_again
