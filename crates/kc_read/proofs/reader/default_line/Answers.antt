use Rattle.kc_expr.specs.Form.{form_of}
use Rattle.std.proofs.Common.{false, refl}
use Rattle.kc_language.specs.{Expressions.names_in, Statements.{DefaultLine, ReadsValue, names_in_condition}}
use Rattle.kc_entries.specs.PartsOfStatements.{front}
use Rattle.kc_read.proofs.PartLemmas.{read_passed, value_fault, value_refused}
use Rattle.kc_read.specs.LineReads.{lexemes_from}
use Rattle.kc_expr.proofs.NamesLemmas.{extends_on, mentioned_on}
use Rattle.kc_read.proofs.reader.default_line.Goals as goal

pub returns-clause-read : goal.returns-clause-read
returns-clause-read c =
    let v = c.in_ok-value.ensures.front in
    let w = c.in_ok-when.ensures.condition in
    let rest = lexemes_from c.args.tokens.now c.in_ok-value.after in (
      DefaultLine v.tree w.tree,
      (front v.tree rest, w.tree, v.starts, w.condition_is, refl),
      record {
        mentions = mentioned_on c.args.names.now c.value_at.new.names c.condition.new.names (names_in v.tree) (names_in_condition w.tree) v.mentions w.mentions;
        form = λ later x. λ i. DefaultLine (v.form later (extends_on c.value_at.new.names c.condition.new.names later c.in_ok-when.ensures.names x) i) (w.form later x i);
      },
    )

pub returns-in_err-when-clause-read : goal.returns-in_err-when-clause-read
returns-in_err-when-clause-read c =
    let ls = lexemes_from c.args.tokens.now 1 in
    read_passed c.args.names.now c.condition.new.names (ReadsValue DefaultLine ls) c.from_residual-in_err-when.result c.in_err-when.field-0.0 c.from_residual-in_err-when.ensures.1
    (value_fault DefaultLine false c.args.names.now c.value_at.new.names ls (lexemes_from c.args.tokens.now c.in_ok-value.after) (form_of c.in_ok-value.value.value)
    c.in_err-when.field-0.0 c.in_ok-value.ensures.front c.in_err-when.ensures.fault)

pub returns-in_err-value-clause-read : goal.returns-in_err-value-clause-read
returns-in_err-value-clause-read c =
    value_refused c.args.names.now c.value_at.new.names DefaultLine (lexemes_from c.args.tokens.now 1) c.from_residual.result
    c.in_err-value.field-0.0 c.from_residual.ensures.1 c.in_err-value.ensures.fault

pub returns-in_err-when-clause-names : goal.returns-in_err-when-clause-names
returns-in_err-when-clause-names c = extends_on c.args.names.now c.value_at.new.names c.condition.new.names c.in_ok-value.ensures.names c.in_err-when.ensures.names

pub returns-clause-names : goal.returns-clause-names
returns-clause-names c = extends_on c.args.names.now c.value_at.new.names c.condition.new.names c.in_ok-value.ensures.names c.in_ok-when.ensures.names
