-- What waits is said first, or not.
use Rattle.kc_conf.specs.Reads.{stop_of}
use Rattle.kc_conf.proofs.EndingLemmas.{Ends-refused, Finishes-said, Finishes-unsaid, some-too_long}
use Rattle.kc_conf.proofs.runs.finish_long.Goals as goal

pub returns-in-Ok : goal.returns-in-Ok
returns-in-Ok g c = λ options.
    Finishes-said options c.args.waiting.now _ _ _ c.requires c.in-Ok.ensures (Ends-refused options _ c.refuse_line.result _ _ (some-too_long (stop_of c.args.long)) c.refuse_line.ensures)

pub returns-in-Err : goal.returns-in-Err
returns-in-Err g c = λ options. Finishes-unsaid options c.args.waiting.now _ _ _ c.in-Err.stop c.in-Err.ensures
