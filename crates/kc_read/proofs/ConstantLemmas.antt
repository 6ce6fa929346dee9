-- The expressions of the constants.
use Rattle.std.proofs.Common.{ap, refl, true, ◌≡◌}
use Rattle.kc_language.specs.{Expressions.{Single, Text, tri_text}, declared.expressions.Tri.{TheVariants.{M, N, Y}, Tri}}
use Rattle.kc_expr.specs.{Form.{form_of, leaf_of}, declared.expression.{Expr.{Expr, TheVariants.{All', Any', Module, Not', NotOne, One, Rel}}, Operand.{Operand, TheVariants.{Const, Sym, TristateConstant}}}}
use Rattle.kc_read.specs.Constants.{is_constant, is_tri}

leaf-tri : (t : Tri) (o : Operand) → is_tri t o ≡ true → leaf_of o ≡ Text (tri_text t)
leaf-tri t (Const text) h = absurd cc
leaf-tri t (Sym s) h = absurd cc
leaf-tri N (TristateConstant N) h = refl
leaf-tri N (TristateConstant M) h = absurd cc
leaf-tri N (TristateConstant Y) h = absurd cc
leaf-tri M (TristateConstant N) h = absurd cc
leaf-tri M (TristateConstant M) h = refl
leaf-tri M (TristateConstant Y) h = absurd cc
leaf-tri Y (TristateConstant N) h = absurd cc
leaf-tri Y (TristateConstant M) h = absurd cc
leaf-tri Y (TristateConstant Y) h = refl

-- such an expression is the constant as it is written
pub form-constant : (t : Tri) (e : Expr) → is_constant t e ≡ true → form_of e ≡ Single (Text (tri_text t))
form-constant t (One o) h = ap Single (leaf-tri t o h)
form-constant t (Rel op operands) h = absurd cc
form-constant t (NotOne o) h = absurd cc
form-constant t (Not' p e) h = absurd cc
form-constant t Module h = absurd cc
form-constant t (All' p first second shape rest) h = absurd cc
form-constant t (Any' p first second shape rest) h = absurd cc
