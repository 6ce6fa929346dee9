use Rattle.std.proofs.Common.{subst, sym, ◌∙◌}
use Rattle.kc_solve.specs.Again.{IsRestOf, IsStageOf}
use Rattle.kc_solve.proofs.again.Again.keep.Goals.{in-Lent, in_default}
use Rattle.kc_solve.proofs.again.Again.keep.Goals as goal

pub returns : goal.returns
returns c = λ laid tree rest again. record {
  plan = again.plan;
  stage = elim c.match-replace.branch [
    | in-Lent w ↦ subst (IsStageOf laid) (sym w.t-9-is) (w.kept_of.ensures laid tree (subst (IsRestOf laid c.args.solved) (sym c.replace.ensures.value ∙ w.in-Lent.is) rest))
    | in_default w ↦ subst (IsStageOf laid) (sym w.t-9-is) tt
  ];
}
