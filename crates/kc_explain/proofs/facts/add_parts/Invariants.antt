-- The parts so far, with their values.
use Rattle.std.proofs.Common.{◌≡◌, ◌++◌, map, take}
use Rattle.kc_explain.specs.FactLists.{parts_told, shown}
use Rattle.kc_explain.specs.PartViews.{part_view}
use Rattle.kc_explain.proofs.facts.add_parts.Given as goal

abbrev pub invariant-loop-part : goal.invariant-loop-part
invariant-loop-part l = shown l.t l.facts.items ≡ shown l.t l.fn.facts.items ++ parts_told l.t.solved.now (map part_view (take l.part-index l.parts))
