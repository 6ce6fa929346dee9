-- Its condition, and what it gives.
use Rattle.std.proofs.Common.{subst, true, ◌≡◌}
use Rattle.kc_expr.specs.Form.{form_of}
use Rattle.kc_expr.specs.declared.expression.Expr.{Expr}
use Rattle.kc_language.specs.{Expressions.SymbolValue, declared.expressions.SymId.SymId}
use Rattle.kc_outcome.specs.Explanations.{default_given}
use Rattle.kc_possible.specs.Possible.{Allows}
use Rattle.kc_tree.specs.LineParts.{default_said}
use Rattle.kc_explain.proofs.FixedLemmas.{fixed_default}
use Rattle.kc_explain.proofs.fixed.is_fixed_default.Goals as goal

pub returns : goal.returns
returns c solution mine e h =
    fixed_default c.args.of.now.possible.now c.args.of.now.id c.args.symbol_type c.args.value solution c.requires mine e (default_said c.args.what.now) c.args.counts
    (c.has_value.ensures h)
    (subst (λ (x : Expr). c.args.counts ≡ true → (a b : SymId → SymbolValue) → Allows c.args.of.now.possible.now a → Allows c.args.of.now.possible.now b →
    default_given c.args.of.now.possible.now.laid.tree.now a c.args.symbol_type (form_of x) ≡ default_given c.args.of.now.possible.now.laid.tree.now b c.args.symbol_type (form_of x))
    c.deref.ensures (c.gives_the_same.ensures c.if-not-gives_the_same.false))
