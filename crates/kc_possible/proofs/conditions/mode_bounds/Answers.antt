use Rattle.std.proofs.Common.{subst, sym}
use Rattle.kc_possible.specs.Bounds.{IsWithin}
use Rattle.kc_possible.proofs.OutwardSteps.{mode-is}
use Rattle.kc_possible.proofs.conditions.mode_bounds.Goals as goal

pub returns-in-Some : goal.returns-in-Some
returns-in-Some c = λ known ok.
    let laid = c.args.p.now.laid in
    subst (IsWithin c.upgrade.result) (sym (mode-is laid.tree.now laid.layout.now known laid.laid c.args.id.0 c.in-Some.choice.now (sym c.in-Some.ensures)))
    (c.upgrade.ensures _ (c.choice_prompt.ensures known ok))
