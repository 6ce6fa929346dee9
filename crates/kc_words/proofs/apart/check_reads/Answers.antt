-- A configuration is written by another one.
use Rattle.std.proofs.Common.{map, string_bytes}
use Rattle.kc_words.proofs.ApartLemmas.{overwrite-clash}
use Rattle.kc_words.proofs.apart.check_reads.Goals as goal

pub returns-in-Err-clause-err : goal.returns-in-Err-clause-err
returns-in-Err-clause-err c = overwrite-clash c.args.each.now (map string_bytes c.args.configurations.now) c.args.written.now c.requires c.in-Err.usage c.in-Err.ensures.err
