use Rattle.kc_io.proofs.WentLemmas.{went_all}
use Rattle.kc_io.proofs.steps.move_there.Goals as goal

pub returns-in-Ok : goal.returns-in-Ok
returns-in-Ok g c = went_all _ _ _ c.in-Ok.ensures
