use Rattle.std.proofs.Common.{take}
use Rattle.kc_solve.specs.Renewing.{HaveReader}
use Rattle.kc_solve.proofs.plan.add_reader.Given as goal

abbrev pub invariant-loop-read : goal.invariant-loop-read
invariant-loop-read l = HaveReader (take l.read-index l.row) l.node l.fn.readers l.readers
