use Rattle.kc_input.proofs.StreamLemmas.{streams_are_read}
use Rattle.kc_input.proofs.laws.streams_are_read.Goals as goal

pub returns : goal.returns
returns c = streams_are_read
