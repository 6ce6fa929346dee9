use Rattle.std.proofs.Common.{refl}
use Rattle.kc_language.specs.Statements.{ChoiceLine}
use Rattle.kc_read.proofs.reader.choice_line.Goals as goal

pub returns-in-None : goal.returns-in-None
returns-in-None c = λ names. (ChoiceLine, rw c.in-None.ensures refl, record { mentions = refl; form = λ later x. refl })
