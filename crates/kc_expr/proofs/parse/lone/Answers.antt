-- What the check left open in `lone`.
use Rattle.kc_expr.proofs.{LoneLemmas.{fails_alone, parsed_alone}, OperandLemmas.memory_at, ParseLemmas.{fault_passed, no_left}}
use Rattle.kc_expr.specs.{Grammar.terminals_from, Reading.FailsChain, declared.parse.ExprFault.TheVariants.Syntax}
use Rattle.kc_language.specs.declared.expressions.Connective.TheVariants.{Or}
use Rattle.kc_text.specs.PartsOfText.{most_levels}
use Rattle.kc_expr.proofs.parse.lone.Goals as goal

pub returns-in_default-clause-fails : goal.returns-in_default-clause-fails
returns-in_default-clause-fails c =
    fails_alone Syntax _ _ (no_left _ (rw c.in_default.is at c.in_ok-found.ensures.reads) c.requires.0.0 c.requires.0.1 _)

pub returns-clause-parsed : goal.returns-clause-parsed
returns-clause-parsed c =
    let found = rw c.in-Some.is at c.in_ok-found.ensures.reads in
    parsed_alone _ _ _ _ _ found.atom _ _ _ found.next c.requires.1 found.mentions found.leaf_is c.lone_expression.ensures

pub returns-in_err-found-clause-fails : goal.returns-in_err-found-clause-fails
returns-in_err-found-clause-fails c =
    let ts = terminals_from c.args.tokens.now c.args.at in
    fault_passed c.from_residual.result (λ f. FailsChain Or f most_levels ts) _ c.from_residual.ensures.1
    (fails_alone _ _ ts (memory_at _ _ ts c.in_err-found.ensures.memory))
