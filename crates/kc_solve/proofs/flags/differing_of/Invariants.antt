use Rattle.std.proofs.Common.{map, ◌≡◌}
use Rattle.std.specs.List.{range_with_len}
use Rattle.kc_language.specs.{ConfigFile.place_at, Values.differs}
use Rattle.kc_solve.specs.Flags.{values_in}
use Rattle.kc_solve.proofs.flags.differing_of.Given as goal

abbrev pub invariant-loop-i : goal.invariant-loop-i
invariant-loop-i l = l.differing.items ≡ map (differs l.table.tree.now (place_at l.user) (values_in l.table)) (range_with_len 0 l.i)
