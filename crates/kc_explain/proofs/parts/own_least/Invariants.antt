-- The least value so far.
use Rattle.kc_explain.proofs.DependencyLemmas.{asked}
use Rattle.kc_explain.proofs.PartLemmas.{LeastIs}
use Rattle.kc_explain.proofs.parts.own_least.Given as goal

abbrev pub invariant-loop-line : goal.invariant-loop-line
invariant-loop-line l = LeastIs (asked l.solved) l.attributes l.line-index l.least
