use Rattle.std.proofs.Common.{◌≡◌, length}
use Rattle.kc_outcome.specs.Explanations.{differs_by_one}
use Rattle.kc_explain.proofs.names.differs_by_one.Given as goal

-- the names differ if what is left of them does
abbrev pub invariant-letters : goal.invariant-letters
invariant-letters l = differs_by_one l.asked l.name ≡ differs_by_one l.fn.asked l.fn.name

abbrev pub decreases-letters : goal.decreases-letters
decreases-letters l = length l.asked
