use Rattle.kc_conf.proofs.DiagnosticLemmas.{diagnostics_are_lines}
use Rattle.kc_conf.proofs.laws.diagnostics_are_lines.Goals as goal

pub returns : goal.returns
returns c = diagnostics_are_lines
