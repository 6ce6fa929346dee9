use Rattle.std.proofs.Common.{map, ◌≡◌}
use Rattle.std.specs.List.{range_with_len}
use Rattle.kc_language.specs.{ConfigFile.place_at, Values.{default_selection, selection}}
use Rattle.kc_solve.specs.Kept.{valuation}
use Rattle.kc_solve.proofs.flags.selections.Given as goal

abbrev pub invariant-loop-c : goal.invariant-loop-c
invariant-loop-c l = record {
  selected : l.selected.items ≡ map (selection l.table.tree.now (place_at l.user) (valuation l.table.tree.now l.table.values)) (range_with_len 0 l.c);
  default : l.default.items ≡ map (default_selection l.table.tree.now (valuation l.table.tree.now l.table.values)) (range_with_len 0 l.c);
}
