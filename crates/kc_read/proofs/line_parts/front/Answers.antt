use Rattle.kc_expr.specs.Form.{form_of}
use Rattle.kc_read.proofs.FrontLemmas.{is_front, is_expression_fault}
use Rattle.kc_read.proofs.line_parts.front.Goals as goal

pub returns-in-Ok-clause-front : goal.returns-in-Ok-clause-front
returns-in-Ok-clause-front c = is_front c.args.condition c.args.names.now c.parse.new.names c.args.tokens.now c.args.at c.in-Ok.end (form_of c.in-Ok.expr)
    c.in-Ok.ensures.within.0 c.in-Ok.ensures.parsed

pub returns-in-Err-clause-fault : goal.returns-in-Err-clause-fault
returns-in-Err-clause-fault c = is_expression_fault c.args.tokens.now c.args.at c.in-Err.fault c.fault_of.result c.fault_of.ensures c.in-Err.ensures.refused
