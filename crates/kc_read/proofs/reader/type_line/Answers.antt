use Rattle.std.proofs.Common.{None, inl, refl}
use Rattle.kc_read.specs.LineReads.{lexemes_from}
use Rattle.kc_language.specs.Statements.{TypeLine}
use Rattle.kc_read.proofs.PartLemmas.{typed_read}
use Rattle.kc_read.proofs.reader.type_line.Goals as goal

pub returns-in-None-clause-read : goal.returns-in-None-clause-read
returns-in-None-clause-read c = (TypeLine c.args.symbol_type None, inl (c.in-None.ensures, refl), record { mentions = refl; form = λ later x. refl })

pub returns-in-Some-clause-read : goal.returns-in-Some-clause-read
returns-in-Some-clause-read c =
    typed_read c.args.names.now c.prompted_type.new.names c.args.symbol_type (lexemes_from c.args.tokens.now 1) c.prompted_type.result (_, _, c.in-Some.ensures.1) c.prompted_type.ensures.read
