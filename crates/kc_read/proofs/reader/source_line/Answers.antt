use Rattle.std.proofs.Common.{refl}
use Rattle.kc_language.specs.Statements.{SourceLine}
use Rattle.kc_read.proofs.reader.source_line.Goals as goal

pub returns : goal.returns
returns c = λ names. (SourceLine c.in_ok-name.name.items, c.in_ok-name.ensures.name, record { mentions = refl; form = λ later x. refl })
