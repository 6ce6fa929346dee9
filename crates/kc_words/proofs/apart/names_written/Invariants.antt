use Rattle.std.proofs.Common.{map, string_bytes}
use Rattle.kc_words.specs.CommandLine.{writes}
use Rattle.kc_words.specs.Clashes.{Holds}
use Rattle.kc_words.proofs.apart.names_written.Given as goal

-- the table holds what the configurations so far write
abbrev pub invariant-loop-config : goal.invariant-loop-config
invariant-loop-config l = Holds (writes l.each) (map string_bytes l.configurations) l.config-index l.written
