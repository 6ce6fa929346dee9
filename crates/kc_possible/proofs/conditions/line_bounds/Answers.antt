use Rattle.std.proofs.Common.{subst, sym}
use Rattle.kc_expr.specs.When.{when_view}
use Rattle.kc_tree.specs.Layouts.{condition_at}
use Rattle.kc_values.proofs.ConditionLemmas.{condition-with_when}
use Rattle.kc_possible.specs.Bounds.{IsWithin}
use Rattle.kc_possible.proofs.conditions.line_bounds.Goals as goal

pub returns : goal.returns
returns c = λ known ok.
    let laid = c.args.p.now.laid in
    subst (IsWithin c.lesser.result) (sym (condition-with_when laid.tree.now known (condition_at laid.layout.now c.args.within.0) (when_view c.args.when.now)))
    (c.lesser.ensures _ _ (c.context.ensures known ok) (c.if_bounds.ensures known ok))
