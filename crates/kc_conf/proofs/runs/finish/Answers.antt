-- What waits is said first, or not.
use Rattle.kc_conf.proofs.EndingLemmas.{Finishes-said, Finishes-unsaid}
use Rattle.kc_conf.proofs.runs.finish.Goals as goal

pub returns-in-Ok : goal.returns-in-Ok
returns-in-Ok g c = Finishes-said c.args.options.now c.args.waiting.now _ _ _ c.requires c.in-Ok.ensures c.hand_or_refuse.ensures

pub returns : goal.returns
returns g c = Finishes-unsaid c.args.options.now c.args.waiting.now _ _ _ c.in-Err.stop c.in-Err.ensures
