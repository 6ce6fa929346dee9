-- A piece is taken, and what it warns of is said.
use Rattle.std.proofs.Common.{◌≡◌, ◌∙◌, Err, ap}
use Rattle.kc_input.specs.declared.fault.InputFault.TheVariants.{InputLineTooLong, Memory}
use Rattle.kc_conf.specs.ReadSteps.{stand}
use Rattle.kc_conf.proofs.StepLemmas.{breaks-memory, breaks-unsaid, takes-long, takes-piece, whole-fed}
use Rattle.kc_conf.proofs.reading.take_piece.Goals as goal

pub say-requires : goal.say-requires
say-requires g c = whole-fed c.args.waiting.now c.feed-fed.new.told c.requires.only c.feed-fed.ensures.lines

pub returns-in-Err-clause-err : goal.returns-in-Err-clause-err
returns-in-Err-clause-err g c =
    breaks-unsaid c.args.reader.now c.args.piece.now c.feed-fed.new.self c.feed-fed.new.told
    (stand g.D.Device.file g.D.Device.log c.args.user.now c.args.waiting.now c.args.device.now)
    (stand g.D.Device.file g.D.Device.log c.feed-fed.new.user c.say.new.waiting c.say.new.device)
    c.requires.only c.requires.fresh c.feed-fed.result c.in-Err.stop c.feed-fed.ensures c.in-Err.ensures.says

pub returns-in-Ok-clause-ok : goal.returns-in-Ok-clause-ok
returns-in-Ok-clause-ok g c =
    takes-piece c.args.reader.now c.args.piece.now c.feed-fed.new.self c.feed-fed.new.told
    (stand g.D.Device.file g.D.Device.log c.args.user.now c.args.waiting.now c.args.device.now)
    (stand g.D.Device.file g.D.Device.log c.feed-fed.new.user c.say.new.waiting c.say.new.device)
    c.requires.only (rw c.in-Ok.is at c.feed-fed.ensures) c.in_default.ensures.says c.in_default.ensures.file c.lines_are_cut.ensures.waiting

pub returns-in-Err-InputLineTooLong-clause-ok : goal.returns-in-Err-InputLineTooLong-clause-ok
returns-in-Err-InputLineTooLong-clause-ok g c =
    let fault : c.in-Err-InputLineTooLong.field-0 ≡ InputLineTooLong c.in-Err-InputLineTooLong.number = rw c.in-Err-InputLineTooLong.is at c.in-Err-InputLineTooLong.field-0-is in
    takes-long c.args.reader.now c.args.piece.now c.feed-fed.new.self c.feed-fed.new.told
    (stand g.D.Device.file g.D.Device.log c.args.user.now c.args.waiting.now c.args.device.now)
    (stand g.D.Device.file g.D.Device.log c.feed-fed.new.user c.say.new.waiting c.say.new.device)
    c.requires.only c.requires.fresh c.in-Err-InputLineTooLong.number (rw (c.in-Err-InputLineTooLong.is ∙ ap Err fault) at c.feed-fed.ensures) c.in_default.ensures.says c.in_default.ensures.file

pub returns-in-Err-Memory-clause-err : goal.returns-in-Err-Memory-clause-err
returns-in-Err-Memory-clause-err g c =
    let fault : c.in-Err-Memory.field-0 ≡ Memory = rw c.in-Err-Memory.is at c.in-Err-Memory.field-0-is in
    breaks-memory c.args.reader.now c.args.piece.now c.feed-fed.new.self c.feed-fed.new.told
    (stand g.D.Device.file g.D.Device.log c.args.user.now c.args.waiting.now c.args.device.now)
    (stand g.D.Device.file g.D.Device.log c.feed-fed.new.user c.say.new.waiting c.say.new.device)
    c.requires.only c.requires.fresh (rw (c.in-Err-Memory.is ∙ ap Err fault) at c.feed-fed.ensures) c.in_default.ensures.says
