-- Why the text of an expression is read back.
use Rattle.kc_expr.proofs.ReadBack.{reads_back}
use Rattle.kc_expr.proofs.text.text_is_read_back.Goals as goal

pub returns : goal.returns
returns c = reads_back
