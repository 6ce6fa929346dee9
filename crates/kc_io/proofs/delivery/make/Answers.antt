use Rattle.kc_io.proofs.DeliveryLemmas.{plain, replacing, not_made}
use Rattle.kc_io.proofs.delivery.make.Goals as goal

pub returns-in-InPlace : goal.returns-in-InPlace
returns-in-InPlace g c = plain _ _ _ _ _ c.in-InPlace.is c.put_all.ensures

pub returns-in-Ok : goal.returns-in-Ok
returns-in-Ok g c = replacing _ _ _ _ _ _ c.in-Replacing.is c.in-Ok.ensures c.move_all.ensures

pub returns-in-Err : goal.returns-in-Err
returns-in-Err g c = not_made _ _ _ _ _ c.in-Replacing.is c.in-Err.ensures
