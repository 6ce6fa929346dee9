use Rattle.kc_io.proofs.{DeliveryLemmas.delivered, LogLemmas.leads_nothing, delivery.deliver.Goals.{in-Replacing, in_default}}
use Rattle.kc_io.proofs.delivery.deliver.Goals as goal

pub returns : goal.returns
returns g c =
    let went = rw c.deref.ensures.value at c.in-Err.ensures in
    elim c.match-manner.branch [
      | in-Replacing w ↦ delivered _ _ _ _ _ _ _ c.choose.ensures went (rw (w.in-Replacing.is, w.device-is) w.clear.ensures)
      | in_default w ↦ delivered _ _ _ _ _ _ _ c.choose.ensures went (rw (w.in_default.is, w.device-is) (leads_nothing _))
    ]
