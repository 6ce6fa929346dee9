use Rattle.kc_input.proofs.RoundTripLemmas.{written_short}
use Rattle.kc_input.proofs.laws.written_lines_are_short.Goals as goal

pub returns : goal.returns
returns c = λ is_raw prefix name known few short fits. written_short is_raw prefix name few short known fits
