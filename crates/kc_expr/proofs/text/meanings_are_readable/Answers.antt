-- Why the meaning of an expression is readable.
use Rattle.kc_expr.proofs.Readable.{meanings_are_readable}
use Rattle.kc_expr.proofs.text.meanings_are_readable.Goals as goal

pub returns : goal.returns
returns c = meanings_are_readable
