-- There was no memory for what the nodes need; or the configurations take their turns.
use Rattle.std.proofs.lemmas.Result.{err_from_is_err_and}
use Rattle.kc_io.proofs.LogLemmas.{leads_nothing}
use Rattle.kc_conf.proofs.many.turns.Goals as goal

pub returns-in_err-again : goal.returns-in_err-again
returns-in_err-again g c =
    let p = err_from_is_err_and c.from_residual.result c.from_residual.ensures.1 in
    rw (p.1, p.2) (λ files root keeps of keeps_for rooted. leads_nothing (g.D.Device.log c.args.device.now))
