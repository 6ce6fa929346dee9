use Rattle.kc_language.specs.{Expressions.all_mentioned, Statements.{SelectLine, names_in_condition}}
use Rattle.kc_entries.specs.PartsOfStatements.{ReadsTarget}
use Rattle.kc_expr.proofs.NamesLemmas.{extends_on}
use Rattle.std.proofs.Common.{ap, ◌∙◌}
use Rattle.kc_read.specs.LineReads.{lexemes_from}
use Rattle.kc_read.proofs.{FrontLemmas.after_one, PartLemmas.{read_passed, target_fault, target_ok}}
use Rattle.kc_read.proofs.reader.select_line.Goals as goal

pub returns-clause-read : goal.returns-clause-read
returns-clause-read c =
    let ls = lexemes_from c.args.tokens.now 1 in
    let w = c.in_ok-when.ensures.condition in
    let t = c.in_ok-word.word.now in (
      SelectLine t w.tree,
      target_ok SelectLine ls (lexemes_from c.args.tokens.now 2) t w.tree c.in_ok-word.ensures.part (after_one c.args.tokens.now 1) w.condition_is,
      record {
        mentions = w.mentions ∙ ap (λ ns. all_mentioned ns (names_in_condition w.tree)) c.in_ok-id.ensures.mentions;
        form = λ later x. λ i. SelectLine (c.in_ok-id.ensures.number later (extends_on c.name_number.new.names c.condition.new.names later c.in_ok-when.ensures.names x) i) (w.form later x i);
      },
    )

pub returns-in_err-when-clause-read : goal.returns-in_err-when-clause-read
returns-in_err-when-clause-read c =
    let ls = lexemes_from c.args.tokens.now 1 in
    read_passed c.args.names.now c.condition.new.names (ReadsTarget SelectLine ls)
    c.from_residual-in_err-when.result c.in_err-when.field-0.0 c.from_residual-in_err-when.ensures.1
    (target_fault SelectLine ls (lexemes_from c.args.tokens.now 2) c.in_ok-word.word.now c.in_err-when.field-0.0 c.in_ok-word.ensures.part
    (after_one c.args.tokens.now 1) c.in_err-when.ensures.fault)

pub returns-in_err-when-clause-names : goal.returns-in_err-when-clause-names
returns-in_err-when-clause-names c = extends_on c.args.names.now c.name_number.new.names c.condition.new.names c.in_ok-id.ensures.names c.in_err-when.ensures.names

pub returns-clause-names : goal.returns-clause-names
returns-clause-names c = extends_on c.args.names.now c.name_number.new.names c.condition.new.names c.in_ok-id.ensures.names c.in_ok-when.ensures.names
