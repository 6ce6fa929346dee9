-- Those of the facts so far were added.
use Rattle.std.proofs.Common.{◌≡◌, ◌++◌, map, take}
use Rattle.std.specs.List.{flat_map}
use Rattle.kc_explain.specs.FactViews.{fact_view}
use Rattle.kc_explain.specs.Holding.{names}
use Rattle.kc_explain.specs.LineViews.{lines_of}
use Rattle.kc_explain.proofs.holders.add_all_names.Given as goal

abbrev pub invariant-loop-fact : goal.invariant-loop-fact
invariant-loop-fact l = l.all.items ≡ l.fn.all.items
    ++ flat_map (names (lines_of l.t.layout.now) l.t.solved.now) (map (fact_view l.t.solved.now) (take l.fact-index l.facts))
