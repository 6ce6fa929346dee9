-- The last part ends the line.
use Rattle.std.proofs.Common.{[], refl}
use Rattle.kc_conf.proofs.diagnostics.try_to_say_text.Goals as goal

pub try_to_say-requires : goal.try_to_say-requires
try_to_say-requires g c = ([], refl)
