use Rattle.std.proofs.Common.{◌∙◌}
use Rattle.kc_solve.proofs.SolvedSteps.{default_is, defaults_within}
use Rattle.kc_solve.proofs.solved.Solved.default_selection.Goals as goal

pub default-requires : goal.default-requires
default-requires c =
    defaults_within c.self.inside.table.tree.now c.self.inside.user.now c.self.inside.table.values _ _ _ _ _ c.self.invariant _ c.self.view_is c.args.choice.0 c.requires

pub returns : goal.returns
returns c =
    c.default.ensures
    ∙ default_is c.self.inside.table.tree.now c.self.inside.user.now c.self.inside.table.values _ _ _ _ _ c.self.invariant _ c.self.view_is c.args.choice.0 c.requires
