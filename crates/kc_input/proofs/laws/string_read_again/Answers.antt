use Rattle.kc_input.proofs.RoundTripLemmas.{string_read_again}
use Rattle.kc_input.proofs.laws.string_read_again.Goals as goal

pub returns : goal.returns
returns c = string_read_again
