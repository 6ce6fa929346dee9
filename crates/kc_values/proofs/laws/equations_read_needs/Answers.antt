use Rattle.kc_values.proofs.TreeNeeds.{reads_rows}
use Rattle.kc_values.proofs.laws.equations_read_needs.Goals as goal

pub returns : goal.returns
returns c = reads_rows c.value_depends_on_symbols.ensures
