-- The last line is ended, and what it warns of is said.
use Rattle.kc_input.specs.Feeding.{ended}
use Rattle.kc_input.specs.ReaderState.{ReaderState}
use Rattle.kc_conf.specs.ReadSteps.{stand}
use Rattle.kc_conf.proofs.StepLemmas.{ends-said, ends-unsaid, whole-fed}
use Rattle.kc_conf.proofs.reading.finish.Goals as goal

pub say-requires : goal.say-requires
say-requires g c = whole-fed c.args.waiting.now c.finish.new.told c.requires.only c.in-Ok.ensures.lines

pub returns-in-Ok-clause-ok : goal.returns-in-Ok-clause-ok
returns-in-Ok-clause-ok g c =
    let end : ReaderState = record c.args.reader.now { position = ended c.args.reader.now.position } in
    ends-said c.args.reader.now end c.finish.new.self c.finish.new.told
    (stand g.D.Device.file g.D.Device.log c.args.user.now c.args.waiting.now c.args.device.now)
    (stand g.D.Device.file g.D.Device.log c.finish.new.user c.say.new.waiting c.say.new.device)
    c.requires.only c.say.result c.in-Ok.ensures c.say.ensures.says

pub returns-in-Ok-clause-err : goal.returns-in-Ok-clause-err
returns-in-Ok-clause-err g c =
    let end : ReaderState = record c.args.reader.now { position = ended c.args.reader.now.position } in
    ends-unsaid c.args.reader.now end c.finish.new.self c.finish.new.told
    (stand g.D.Device.file g.D.Device.log c.args.user.now c.args.waiting.now c.args.device.now)
    (stand g.D.Device.file g.D.Device.log c.finish.new.user c.say.new.waiting c.say.new.device)
    c.requires.only c.say.result c.in-Ok.ensures c.say.ensures.says
