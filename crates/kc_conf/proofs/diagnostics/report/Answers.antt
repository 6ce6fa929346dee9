-- What failed is told, unless it is the diagnostics.
use Rattle.std.proofs.Common.{Ok, refl}
use Rattle.kc_io.proofs.LogLemmas.{leads_nothing}
use Rattle.kc_conf.proofs.SayLemmas.{reports-input}
use Rattle.kc_conf.proofs.diagnostics.report.Goals as goal

pub returns-in-Report : goal.returns-in-Report
returns-in-Report g c = rw (c.in-Failed.is, c.in-Report.is) (Ok tt, refl, refl, leads_nothing (g.D.Device.log c.args.device.now))

pub returns-in-Open : goal.returns-in-Open
returns-in-Open g c =
    rw c.in-Failed.is
    (reports-input c.args.options.now c.in-Failed.failure c.tell_failure.result (g.D.Device.log c.args.device.now) (g.D.Device.log c.tell_failure.new.device)
    c.in-Open.is (rw c.as_bytes-name.ensures.value at c.tell_failure.ensures))
