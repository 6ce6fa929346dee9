use Rattle.std.proofs.Common.{take}
use Rattle.kc_values.specs.NeedRows as rows
use Rattle.kc_values.specs.MadeRows.{Adds}
use Rattle.kc_values.proofs.needs.members_into.Given as goal

abbrev pub invariant-loop-member : goal.invariant-loop-member
invariant-loop-member l = Adds l.initial.out l.out (rows.members l.layout (take l.member-index l.members))
