use Rattle.kc_expr.specs.Form.{form_of}
use Rattle.kc_read.specs.LineReads.{lexemes_from}
use Rattle.std.proofs.Common.{sym, ◌+◌, ◌∙◌}
use Rattle.kc_read.proofs.{FrontLemmas.after_one, PartLemmas.{condition_fault, condition_if, fault_passed}}
use Rattle.kc_read.proofs.line_parts.condition.Goals as goal

pub returns-in_err-when-clause-fault : goal.returns-in_err-when-clause-fault
returns-in_err-when-clause-fault c =
    let ls = lexemes_from c.args.tokens.now c.args.at in
    fault_passed c.from_residual.result _ _ c.from_residual.ensures.1
    (condition_fault ls (lexemes_from c.args.tokens.now (c.args.at + 1)) c.in_err-when.field-0.0 (sym c.begins_with.ensures.word ∙ c.if-begins_with.true)
    (after_one c.args.tokens.now c.args.at) c.in_err-when.ensures.fault)

pub returns-then-begins_with-clause-condition : goal.returns-then-begins_with-clause-condition
returns-then-begins_with-clause-condition c =
    let ls = lexemes_from c.args.tokens.now c.args.at in
    condition_if c.args.names.now c.whole.new.names ls _ (form_of c.in_ok-when.when.value)
    (sym c.begins_with.ensures.word ∙ c.if-begins_with.true) (after_one c.args.tokens.now c.args.at) c.in_ok-when.ensures.whole
