-- What ends a line is whole lines.
use Rattle.kc_conf.proofs.SayLemmas.{whole-parts}
use Rattle.kc_conf.proofs.diagnostics.say_parts.Goals as goal

pub report-requires : goal.report-requires
report-requires g c = whole-parts c.args.parts.now c.requires
