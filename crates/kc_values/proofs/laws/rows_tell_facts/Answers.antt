use Rattle.std.proofs.Common.{refl, sym}
use Rattle.kc_values.proofs.Laid.{symbol_found}
use Rattle.kc_values.proofs.laws.rows_tell_facts.Goals as goal

pub returns : goal.returns
returns c tree l s laid = sym (symbol_found tree l laid s.0 _ refl)
