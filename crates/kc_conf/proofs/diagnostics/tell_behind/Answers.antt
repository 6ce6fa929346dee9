-- The last part ends the line.
use Rattle.std.proofs.Common.{[], refl}
use Rattle.kc_conf.proofs.diagnostics.tell_behind.Goals as goal

pub tell-requires : goal.tell-requires
tell-requires g c = ([], refl)
