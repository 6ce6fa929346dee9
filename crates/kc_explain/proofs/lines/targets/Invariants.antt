-- The lines so far, and those that are left.
use Rattle.kc_explain.proofs.TargetLemmas.{Walks}
use Rattle.kc_explain.proofs.lines.targets.Given as goal

abbrev pub invariant-lines : goal.invariant-lines
invariant-lines l = Walks l.layout l.fn.word l.fn.id l.next.0 l.all.items

abbrev pub decreases-lines : goal.decreases-lines
decreases-lines l = l.next.0
