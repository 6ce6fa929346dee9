-- Two configurations write a file.
use Rattle.std.proofs.Common.{map, string_bytes}
use Rattle.kc_words.proofs.ApartLemmas.{twice-clash}
use Rattle.kc_words.proofs.apart.check.Goals as goal

pub returns-in-Err-clause-err : goal.returns-in-Err-clause-err
returns-in-Err-clause-err c = twice-clash c.args.each.now (map string_bytes c.args.configurations.now) c.in-Err.usage c.in-Err.ensures.err
