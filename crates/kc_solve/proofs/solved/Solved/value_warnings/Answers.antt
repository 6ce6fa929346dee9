use Rattle.std.proofs.Common.{◌≡◌, map, subst}
use Rattle.kc_diagnostics.specs.Warnings.{owned_warning}
use Rattle.kc_language.specs.Texts.{Solution, value_warnings}
use Rattle.kc_solve.proofs.SolvedSteps.{warnings_too}
use Rattle.kc_solve.proofs.solved.Solved.value_warnings.Goals as goal

pub returns : goal.returns
returns c =
    rw c.deref.ensures.value (subst (λ (s : Solution). map owned_warning c.self.inside.warnings.items ≡ value_warnings s) c.self.view_is
    (warnings_too c.self.inside.table.tree.now c.self.inside.user.now c.self.inside.table.values _ _ _ _ _ c.self.invariant))
