-- What is reached in the steps that are left is what is to be reached.
use Rattle.std.proofs.Common.{◌≡◌}
use Rattle.kc_outcome.specs.Explanations.{reached}
use Rattle.kc_explain.proofs.holders.reach.Given as goal

abbrev pub invariant-steps : goal.invariant-steps
invariant-steps l = reached l.t.input.now l.t.solved.now l.left l.seen l.front.items ≡ reached l.t.input.now l.t.solved.now l.fn.depth l.fn.seen l.fn.first.items

abbrev pub decreases-steps : goal.decreases-steps
decreases-steps l = l.left
