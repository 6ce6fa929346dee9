use Rattle.std.proofs.Common.{◌∙◌}
use Rattle.kc_solve.proofs.SolvedSteps.{selection_is, selection_within}
use Rattle.kc_solve.proofs.solved.Solved.selection.Goals as goal

pub selected-requires : goal.selected-requires
selected-requires c =
    selection_within c.self.inside.table.tree.now c.self.inside.user.now c.self.inside.table.values _ _ _ _ _ c.self.invariant _ c.self.view_is c.args.choice.0 c.requires

pub returns : goal.returns
returns c =
    c.selected.ensures
    ∙ selection_is c.self.inside.table.tree.now c.self.inside.user.now c.self.inside.table.values _ _ _ _ _ c.self.invariant _ c.self.view_is c.args.choice.0 c.requires
