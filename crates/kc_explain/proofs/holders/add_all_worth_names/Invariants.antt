-- Those of the parts so far were added.
use Rattle.std.proofs.Common.{◌≡◌, ◌++◌, map, take}
use Rattle.kc_explain.specs.Holding as held
use Rattle.kc_explain.specs.PartViews.{part_view}
use Rattle.kc_explain.proofs.holders.add_all_worth_names.Given as goal

abbrev pub invariant-loop-part : goal.invariant-loop-part
invariant-loop-part l = l.all.items ≡ l.fn.all.items ++ held.all_worth_names l.solved (map part_view (take l.part-index l.parts))
