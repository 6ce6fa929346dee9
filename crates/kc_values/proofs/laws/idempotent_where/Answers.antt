use Rattle.kc_values.proofs.IdempotentLines.{idempotent_where}
use Rattle.kc_values.proofs.laws.idempotent_where.Goals as goal

pub returns : goal.returns
returns c = idempotent_where
