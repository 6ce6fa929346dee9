use Rattle.std.proofs.Common.{refl, ap}
use Rattle.kc_language.specs.Statements.{IfLine}
use Rattle.kc_read.proofs.reader.if_line.Goals as goal

pub returns-clause-read : goal.returns-clause-read
returns-clause-read c = let w = c.in_ok-when.ensures.whole in (IfLine w.tree, (w.tree, w.whole, refl), record { mentions = w.mentions; form = λ later x. ap IfLine (w.form later x) })
