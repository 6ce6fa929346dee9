-- The lost values so far are those of the symbols so far.
use Rattle.std.proofs.Common.{◌≡◌, map, take}
use Rattle.std.specs.List.{flat_map}
use Rattle.kc_conf.specs.Lost.{lost_pairs, lost_view}
use Rattle.kc_conf.proofs.lost.all_lost.Given as goal

abbrev pub invariant-loop-i : goal.invariant-loop-i
invariant-loop-i l = map lost_view l.lost.items ≡ flat_map (lost_pairs l.is_raw l.input.lines l.solved) (take l.i l.tree.defined)
