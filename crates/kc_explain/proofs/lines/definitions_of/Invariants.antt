-- Those so far, and those that are left.
use Rattle.std.proofs.Common.{length}
use Rattle.kc_tree.specs.Layouts.{definitions_at}
use Rattle.kc_explain.proofs.WalkLemmas.{Walks}
use Rattle.kc_explain.proofs.lines.definitions_of.Given as goal

abbrev pub invariant-definitions : goal.invariant-definitions
invariant-definitions l = Walks l.layout l.fn.id l.at.0 l.all.items

abbrev pub decreases-definitions : goal.decreases-definitions
decreases-definitions l = length (definitions_at l.layout l.fn.id l.at.0)
