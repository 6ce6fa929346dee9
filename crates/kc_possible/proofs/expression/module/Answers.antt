-- The bounds of a lone m of a condition.
use Rattle.std.proofs.Common.{subst}
use Rattle.kc_expr.specs.PartsOfExpressions.{lone_m}
use Rattle.kc_language.specs.{Expressions.truth_of_value, declared.expressions.Tri.TheVariants.M}
use Rattle.kc_possible.specs.Bounds.{IsWithin}
use Rattle.kc_possible.proofs.expression.module.Goals as goal

pub returns-in-Some : goal.returns-in-Some
returns-in-Some c known allowed =
    subst (λ m. IsWithin c.lesser.result (lone_m known m)) c.in-Some.ensures (c.lesser.ensures M (truth_of_value (known c.in-Some.id)) c.exactly.ensures.within (c.symbol.ensures.covers known allowed))
