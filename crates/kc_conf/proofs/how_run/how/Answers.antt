-- A run that was broken off says why.
use Rattle.kc_read.specs.Files.{files_in}
use Rattle.kc_conf.proofs.HowLemmas.{HowRuns-answered}
use Rattle.kc_conf.proofs.how_run.how.Goals as goal

pub returns : goal.returns
returns g c =
    HowRuns-answered (files_in c.args.files) c.args.options.now c.args.asked.now c.how_over-ended.result c.answer.result.status c.answer.result.is_over (g.D.Device.log c.args.device.now)
    (g.D.Device.log c.how_over-ended.new.device) (g.D.Device.log c.answer.new.device) c.how_over-ended.ensures c.answer.ensures
