use Rattle.std.proofs.Common.{true}
use Rattle.kc_expr.specs.Form.{form_of}
use Rattle.kc_language.specs.Statements.{WholeFault}
use Rattle.kc_read.specs.LineReads.{IsFault, lexemes_from}
use Rattle.kc_read.proofs.PartLemmas.{fault_passed, whole_more}
use Rattle.kc_read.proofs.line_parts.whole.Goals as goal

pub returns-in_err-end-clause-fault : goal.returns-in_err-end-clause-fault
returns-in_err-end-clause-fault c =
    let ls = lexemes_from c.args.tokens.now c.args.at in
    fault_passed c.from_residual-in_err-end.result (λ f. IsFault f (WholeFault ls)) c.in_err-end.field-0.0 c.from_residual-in_err-end.ensures.1
    (whole_more true c.args.names.now c.front.new.names ls (lexemes_from c.args.tokens.now c.in_ok-expr.after) (form_of c.in_ok-expr.expr)
    c.in_err-end.field-0.0 c.in_ok-expr.ensures.front c.in_err-end.ensures.more.0 c.in_err-end.ensures.more.1)
