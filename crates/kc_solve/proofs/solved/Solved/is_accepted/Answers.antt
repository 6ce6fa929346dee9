use Rattle.std.proofs.Common.{subst}
use Rattle.kc_language.specs.{Needs.IsAccepted, Texts.Solution}
use Rattle.kc_solve.proofs.solved.Solved.is_accepted.Goals as goal

pub returns : goal.returns
returns c = subst (λ (s : Solution). IsAccepted s.tree) c.self.view_is c.self.invariant.accepted
