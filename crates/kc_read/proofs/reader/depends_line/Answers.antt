use Rattle.std.proofs.Common.{ap, sym, ◌∙◌}
use Rattle.kc_read.specs.LineReads.{lexemes_from}
use Rattle.kc_language.specs.Statements.{DependsLine}
use Rattle.kc_entries.specs.PartsOfStatements.{ReadsDepends}
use Rattle.kc_read.proofs.{FrontLemmas.after_one, PartLemmas.{depends_fault, depends_ok, read_passed}}
use Rattle.kc_read.proofs.reader.depends_line.Goals as goal

pub returns-clause-read : goal.returns-clause-read
returns-clause-read c =
    let ls = lexemes_from c.args.tokens.now 1 in
    let w = c.in_ok-when.ensures.whole in (
      DependsLine w.tree,
      depends_ok ls (lexemes_from c.args.tokens.now 2) w.tree (sym c.begins_with.ensures.word ∙ c.if-not-begins_with.false)
          (after_one c.args.tokens.now 1) w.whole,
      record { mentions = w.mentions; form = λ later x. ap DependsLine (w.form later x) },
    )

pub returns-in_err-when-clause-read : goal.returns-in_err-when-clause-read
returns-in_err-when-clause-read c =
    let ls = lexemes_from c.args.tokens.now 1 in
    read_passed c.args.names.now c.whole.new.names (ReadsDepends ls) c.from_residual.result c.in_err-when.field-0.0 c.from_residual.ensures.1
    (depends_fault ls (lexemes_from c.args.tokens.now 2) c.in_err-when.field-0.0 (sym c.begins_with.ensures.word ∙ c.if-not-begins_with.false)
    (after_one c.args.tokens.now 1) c.in_err-when.ensures.fault)
