-- The last part ends the line.
use Rattle.std.proofs.Common.{[], refl}
use Rattle.kc_conf.proofs.diagnostics.say_at.Goals as goal

pub say_parts-requires : goal.say_parts-requires
say_parts-requires g c = ([], refl)
