use Rattle.std.proofs.Common.{[], ap}
use Rattle.kc_language.specs.Statements.{PromptLine, ReadsPrompt}
use Rattle.kc_read.specs.LineReads.{lexemes_from, unquoted_text}
use Rattle.kc_read.proofs.{FrontLemmas.after_one, PartLemmas.{asked_fault, asked_ok, read_passed}}
use Rattle.kc_read.proofs.reader.prompt_line.Goals as goal

pub returns-clause-read : goal.returns-clause-read
returns-clause-read c =
    let ls = lexemes_from c.args.tokens.now 1 in
    let w = c.in_ok-when.ensures.condition in
    let t = unquoted_text c.in_ok-raw_text.field-0.1 c.in_ok-raw_text.field-0.0.now in (
      PromptLine (record { text = t; when = w.tree }),
      asked_ok PromptLine ls (lexemes_from c.args.tokens.now 2) t w.tree c.in_ok-raw_text.ensures.part
          (after_one c.args.tokens.now 1) w.condition_is,
      record
          { mentions = w.mentions; form = λ later x. ap (λ o. PromptLine (record { text = []; when = o })) (w.form later x) },
    )

pub returns-in_err-when-clause-read : goal.returns-in_err-when-clause-read
returns-in_err-when-clause-read c =
    let ls = lexemes_from c.args.tokens.now 1 in
    let t = unquoted_text c.in_ok-raw_text.field-0.1 c.in_ok-raw_text.field-0.0.now in
    read_passed c.args.names.now c.condition.new.names (ReadsPrompt PromptLine ls)
    c.from_residual-in_err-when.result c.in_err-when.field-0.0 c.from_residual-in_err-when.ensures.1
    (asked_fault PromptLine ls (lexemes_from c.args.tokens.now 2) t c.in_err-when.field-0.0 c.in_ok-raw_text.ensures.part (after_one c.args.tokens.now 1)
    c.in_err-when.ensures.fault)
