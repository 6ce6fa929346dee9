use Rattle.std.proofs.Common.{refl, sym}
use Rattle.kc_user.specs.ValueView.{given_of_value}
use Rattle.kc_input.proofs.StepLemmas.{assigned_no, assigned_yes}
use Rattle.kc_input.proofs.step.assign.Goals as goal

pub returns-then-is_selected-clause-done : goal.returns-then-is_selected-clause-done
returns-then-is_selected-clause-done c =
    assigned_yes c.args.tree.now c.args.user.now c.set.new.self c.choose.new.user c.args.id (given_of_value c.args.value) (sym c.if-is_selected.ensures) c.in_ok-set.ensures.done c.choose.ensures

pub returns-else-is_selected-clause-done : goal.returns-else-is_selected-clause-done
returns-else-is_selected-clause-done c =
    assigned_no c.args.tree.now c.args.user.now c.set.new.self c.set.new.self c.args.id (given_of_value c.args.value) (sym c.if-is_selected.ensures) c.in_ok-set.ensures.done refl
