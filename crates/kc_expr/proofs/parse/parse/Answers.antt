-- What the check left open in `parse`.
use Rattle.std.proofs.{Common.ℕ, lemmas.Result.IfOk-weaker}
use Rattle.kc_expr.specs.{Form.form_of, Grammar.terminals_from, declared.expression.Expr.Expr}
use Rattle.kc_expr.proofs.TopLemmas.{IfErr-weaker, is_parsed, is_refused}
use Rattle.kc_expr.proofs.parse.parse.Goals as goal

pub returns-then-is_lone-clause-parsed : goal.returns-then-is_lone-clause-parsed
returns-then-is_lone-clause-parsed c =
    let ts = terminals_from c.args.tokens.now in
    IfOk-weaker _ _ _ (λ (r : Expr × ℕ). is_parsed c.args.condition (ts c.args.at) (ts r.1) c.args.names.now c.lone.new.names (form_of r.0)) c.lone.ensures.parsed

pub returns-then-is_lone-clause-refused : goal.returns-then-is_lone-clause-refused
returns-then-is_lone-clause-refused c = IfErr-weaker _ _ _ (λ f p. is_refused f (terminals_from c.args.tokens.now c.args.at) p) c.lone.ensures.fails

pub returns-clause-parsed : goal.returns-clause-parsed
returns-clause-parsed c =
    let ts = terminals_from c.args.tokens.now in
    IfOk-weaker _ _ _ (λ (r : Expr × ℕ). is_parsed c.args.condition (ts c.args.at) (ts r.1) c.args.names.now c.chain.new.names (form_of r.0)) c.chain.ensures.parsed

pub returns-clause-refused : goal.returns-clause-refused
returns-clause-refused c = IfErr-weaker _ _ _ (λ f p. is_refused f (terminals_from c.args.tokens.now c.args.at) p) c.chain.ensures.fails
