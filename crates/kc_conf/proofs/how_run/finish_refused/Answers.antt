-- What waits is said first, or not.
use Rattle.std.proofs.Common.{◌++◌}
use Rattle.kc_outcome.specs.Outcome.{lead}
use Rattle.kc_conf.proofs.EndingLemmas.{Ends-refused, Finishes-said, Finishes-unsaid}
use Rattle.kc_conf.proofs.SayLemmas.{ends-behind, some-end}
use Rattle.kc_conf.proofs.how_run.finish_refused.Goals as goal

pub returns-in-Ok : goal.returns-in-Ok
returns-in-Ok g c =
    let options = c.args.options.now in
    Finishes-said options c.args.waiting.now _ _ _ c.requires.waiting c.in-Ok.ensures
    (Ends-refused options (lead options ++ c.args.lines.now) c.refuse_with.result _ _ (some-end (lead options ++ c.args.lines.now) (ends-behind (lead options) c.args.lines.now c.requires.lines)) c.refuse_with.ensures)

pub returns-in-Err : goal.returns-in-Err
returns-in-Err g c = Finishes-unsaid c.args.options.now c.args.waiting.now _ _ _ c.in-Err.stop c.in-Err.ensures
