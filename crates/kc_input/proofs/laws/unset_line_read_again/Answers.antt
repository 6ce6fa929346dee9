use Rattle.kc_input.proofs.RoundTripLemmas.{unset_read_again}
use Rattle.kc_input.proofs.laws.unset_line_read_again.Goals as goal

pub returns : goal.returns
returns c = unset_read_again
