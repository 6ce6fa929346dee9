use Rattle.kc_io.proofs.LogLemmas.{leads_both}
use Rattle.kc_io.proofs.laws.turns_follow.Goals as goal

pub returns : goal.returns
returns c = λ first second before behind old mid new h w. leads_both first second before behind old mid new h w
