use Rattle.std.proofs.Common.{Bool, false, not, refl, subst, sym, true, ◌≡◌}
use Rattle.kc_tree.specs.declared.laid_tree.LaidTree.{LaidTree}
use Rattle.kc_possible.specs.Possible.{IsImpossible}
use Rattle.kc_user.specs.ValueView.{given_of_value}
use Rattle.kc_user.specs.declared.value.UserValue.{UserValue}
use Rattle.kc_how.specs.How.{IsOutOfReach}
use Rattle.kc_how.proofs.ReachLemmas.{out_of_reach}
use Rattle.kc_how.proofs.answer.is_excluded.Goals as goal

is-false : (b : Bool) → not b ≡ true → b ≡ false
is-false false e = refl
is-false true e = cc

pub returns-in-Tri : goal.returns-in-Tri
returns-in-Tri c excluded =
    let q = c.args.question.now in
    let s = q.goal.now.symbol in
    let never : IsImpossible q.laid.now.tree.now s c.in-Tri.tri =
    subst (λ (l : LaidTree). IsImpossible l.tree.now s c.in-Tri.tri) c.requires.bounds (c.may_be.ensures (is-false c.may_be.result excluded)) in
    subst (λ (v : UserValue). IsOutOfReach q.laid.now.tree.now (record { symbol = s; value = given_of_value v })) (sym c.in-Tri.is) (out_of_reach q.laid.now.tree.now s c.in-Tri.tri never)
