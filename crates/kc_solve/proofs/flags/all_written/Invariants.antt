use Rattle.std.proofs.Common.{map, ◌≡◌}
use Rattle.std.specs.List.{range_with_len}
use Rattle.kc_solve.specs.Flags.{is_written, values_in}
use Rattle.kc_solve.proofs.flags.all_written.Given as goal

abbrev pub invariant-loop-i : goal.invariant-loop-i
invariant-loop-i l = l.written.items ≡ map (is_written l.table.tree.now (values_in l.table)) (range_with_len 0 l.i)
