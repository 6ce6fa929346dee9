use Rattle.kc_io.proofs.LogLemmas.{held_stays}
use Rattle.kc_io.proofs.laws.looking_keeps.Goals as goal

pub returns : goal.returns
returns c = λ name events text journal kept. held_stays events text journal name kept
