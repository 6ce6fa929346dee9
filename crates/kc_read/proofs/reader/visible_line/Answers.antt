use Rattle.std.proofs.Common.{ap, sym, ◌∙◌}
use Rattle.kc_read.specs.LineReads.{lexemes_from}
use Rattle.kc_language.specs.Statements.{VisibleLine}
use Rattle.kc_entries.specs.PartsOfStatements.{ReadsVisible}
use Rattle.kc_read.proofs.{FrontLemmas.after_one, PartLemmas.{read_passed, visible_fault, visible_ok}}
use Rattle.kc_read.proofs.reader.visible_line.Goals as goal

pub returns-clause-read : goal.returns-clause-read
returns-clause-read c =
    let ls = lexemes_from c.args.tokens.now 1 in
    let w = c.in_ok-when.ensures.whole in (
      VisibleLine w.tree,
      visible_ok ls (lexemes_from c.args.tokens.now 2) w.tree (sym c.begins_with.ensures.word ∙ c.if-not-begins_with.false)
          (after_one c.args.tokens.now 1) w.whole,
      record { mentions = w.mentions; form = λ later x. ap VisibleLine (w.form later x) },
    )

pub returns-in_err-when-clause-read : goal.returns-in_err-when-clause-read
returns-in_err-when-clause-read c =
    let ls = lexemes_from c.args.tokens.now 1 in
    read_passed c.args.names.now c.whole.new.names (ReadsVisible ls) c.from_residual.result c.in_err-when.field-0.0 c.from_residual.ensures.1
    (visible_fault ls (lexemes_from c.args.tokens.now 2) c.in_err-when.field-0.0 (sym c.begins_with.ensures.word ∙ c.if-not-begins_with.false)
    (after_one c.args.tokens.now 1) c.in_err-when.ensures.fault)
