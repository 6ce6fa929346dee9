-- There was no memory for the bounds; or the configurations take their turns.
use Rattle.std.proofs.lemmas.Result.{err_from_is_err_and}
use Rattle.kc_io.proofs.LogLemmas.{leads_nothing}
use Rattle.kc_conf.proofs.how_many.how_turns.Goals as goal

pub returns-in_err-possible : goal.returns-in_err-possible
returns-in_err-possible g c =
    let p = err_from_is_err_and c.from_residual.result c.from_residual.ensures.1 in
    rw (p.1, p.2) (λ files root keeps of keeps_for rooted. leads_nothing (g.D.Device.log c.args.device.now))

pub all_turns-requires-clause-again : goal.all_turns-requires-clause-again
all_turns-requires-clause-again g c = c.never.ensures c.args.accepted.now.laid
