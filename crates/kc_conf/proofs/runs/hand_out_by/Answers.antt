-- Texts are written, or take their places at the end.
use Rattle.std.proofs.Common.{map}
use Rattle.kc_io.specs.Delivered.{text_view}
use Rattle.kc_conf.proofs.EndingLemmas.{Ends-replaced, Ends-written}
use Rattle.kc_conf.proofs.runs.hand_out_by.Goals as goal

pub returns-in-Write : goal.returns-in-Write
returns-in-Write g c =
    Ends-written c.args.options.now (map text_view c.args.texts.items) (g.D.Device.log c.args.device.now) (g.D.Device.log c.hand_out.new.device) c.hand_out.result c.in-Write.is c.hand_out.ensures

pub returns-in-Replace : goal.returns-in-Replace
returns-in-Replace g c =
    Ends-replaced c.args.options.now (map text_view c.args.texts.items) (g.D.Device.log c.args.device.now) (g.D.Device.log c.hand_out-in-Replace.new.device) c.hand_out-in-Replace.result c.in-Replace.is
    c.hand_out-in-Replace.ensures
