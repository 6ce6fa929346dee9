use Rattle.std.proofs.Common.{◌≡◌, ◌++◌, drop, take}
use Rattle.kc_outcome.specs.Outcome.{first_line}
use Rattle.kc_conf.proofs.diagnostics.first_line.Given as goal

-- no line feed so far
abbrev pub invariant-loop-i : goal.invariant-loop-i
invariant-loop-i l = first_line l.name ≡ take l.i l.name ++ first_line (drop l.i l.name)
