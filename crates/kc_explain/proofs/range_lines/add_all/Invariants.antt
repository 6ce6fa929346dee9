-- Those so far.
use Rattle.std.proofs.Common.{◌≡◌, ◌++◌, take}
use Rattle.std.specs.List.{flat_map}
use Rattle.kc_explain.specs.RangeViews.{entry_told}
use Rattle.kc_explain.proofs.range_lines.add_all.Given as goal

abbrev pub invariant-loop-entry : goal.invariant-loop-entry
invariant-loop-entry l = l.text.items ≡ l.fn.text.items ++ flat_map (entry_told l.t.is_raw l.t.solved.now.tree l.wanted l.t.layout.now) (take l.entry-index l.entries)
