-- Those so far.
use Rattle.std.proofs.Common.{◌≡◌, ◌++◌, take}
use Rattle.std.specs.List.{flat_map}
use Rattle.kc_explain.specs.RangeViews.{attribute_told}
use Rattle.kc_explain.proofs.range_lines.add_own.Given as goal

abbrev pub invariant-loop-line : goal.invariant-loop-line
invariant-loop-line l = l.text.items ≡ l.fn.text.items ++ flat_map (attribute_told l.t.is_raw l.t.solved.now.tree l.wanted l.fn.own.first.now) (take l.line-index l.fn.own.attributes.now)
