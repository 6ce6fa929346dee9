-- The symbol has one of the three values.
use Rattle.std.proofs.Common.{refl, ◌≡◌}
use Rattle.kc_language.specs.{Expressions.truth_of_value, declared.expressions.Tri.{TheVariants.{M, N, Y}, Tri}}
use Rattle.kc_possible.proofs.expression.by_symbol.Goals as goal

cases : (P : Type 0) (t : Tri) → (t ≡ N → P) → (t ≡ M → P) → (t ≡ Y → P) → P
cases P N n m y = n refl
cases P M n m y = m refl
cases P Y n m y = y refl

pub returns : goal.returns
returns c known allowed = cases _ (truth_of_value (known c.args.id))
    (λ e. c.join-2.ensures.left _ (c.join.ensures.left _ (c.with_value-off.ensures known allowed e)))
    (λ e. c.join-2.ensures.left _ (c.join.ensures.right _ (c.with_value-module.ensures known allowed e)))
    (λ e. c.join-2.ensures.right _ (c.with_value-on.ensures known allowed e))
