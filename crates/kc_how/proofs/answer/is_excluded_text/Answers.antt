-- A text that the bounds exclude is out of reach.
use Rattle.std.proofs.Common.{Bool, false, not, refl, subst, sym, true, ◌≡◌}
use Rattle.kc_tree.specs.declared.laid_tree.LaidTree.{LaidTree}
use Rattle.kc_possible.specs.Possible.{IsTextImpossible}
use Rattle.kc_user.specs.ValueView.{given_of_value}
use Rattle.kc_user.specs.declared.value.UserValue.{UserValue}
use Rattle.kc_how.specs.How.{IsOutOfReach}
use Rattle.kc_how.proofs.answer.is_excluded_text.Goals as goal

is-false : (b : Bool) → not b ≡ true → b ≡ false
is-false false e = refl
is-false true e = cc

pub returns-in-Text : goal.returns-in-Text
returns-in-Text c excluded =
    let q = c.args.question.now in
    let s = q.goal.now.symbol in
    let text = c.in-Text.text.items in
    let never : IsTextImpossible q.laid.now.tree.now s text =
    subst (λ (l : LaidTree). IsTextImpossible l.tree.now s text) c.requires.bounds (rw c.deref.ensures.value at (c.may_have_text.ensures (is-false c.may_have_text.result excluded))) in
    subst (λ (v : UserValue). IsOutOfReach q.laid.now.tree.now (record { symbol = s; value = given_of_value v })) (sym c.in-Text.is) never
