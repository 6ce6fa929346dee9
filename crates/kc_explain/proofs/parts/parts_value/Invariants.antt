-- The least value so far.
use Rattle.kc_explain.specs.PartViews.{asked_value, asked_view}
use Rattle.kc_explain.proofs.PartLemmas.{LeastIs}
use Rattle.kc_explain.proofs.parts.parts_value.Given as goal

abbrev pub invariant-loop-part : goal.invariant-loop-part
invariant-loop-part l = LeastIs (λ p. asked_value l.solved (asked_view p.asks)) l.parts l.part-index l.least
