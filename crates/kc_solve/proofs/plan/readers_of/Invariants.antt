use Rattle.std.proofs.Common.{length, ◌≡◌}
use Rattle.kc_solve.specs.Plans.{AreReadersTo}
use Rattle.kc_solve.proofs.plan.readers_of.Given as goal

abbrev pub invariant-loop-node : goal.invariant-loop-node
invariant-loop-node l = (length l.readers ≡ length l.needs.rows) × AreReadersTo l.node l.needs l.readers
