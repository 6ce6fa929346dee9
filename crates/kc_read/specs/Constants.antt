-- For proofs: The expressions that are only one of the constants n, m and y.
use Rattle.std.specs.Prelude.{Bool, false, true}
use Rattle.kc_language.specs.declared.expressions.Tri.{TheVariants.{M, N, Y}, Tri}
use Rattle.kc_expr.specs.declared.expression.{Expr.{Expr, TheVariants.One}, Operand.{Operand, TheVariants.TristateConstant}}

-- both are the same constant
abbrev pub same_tri : Tri → Tri → Bool
same_tri N N = true
same_tri M M = true
same_tri Y Y = true
same_tri _ _ = false

-- an operand is this constant
abbrev pub is_tri : Tri → Operand → Bool
is_tri t (TristateConstant u) = same_tri t u
is_tri t _ = false

-- an expression is only this constant
abbrev pub is_constant : Tri → Expr → Bool
is_constant t (One o) = is_tri t o
is_constant t _ = false
