use Rattle.kc_input.proofs.CallLemmas.{calls_join}
use Rattle.kc_input.proofs.laws.calls_join.Goals as goal

pub returns : goal.returns
returns c = calls_join
