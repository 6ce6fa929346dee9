-- The lines so far were added.
use Rattle.std.proofs.Common.{◌≡◌, ◌++◌, map, take}
use Rattle.kc_conf.specs.Lost.{lines_of, lost_view}
use Rattle.kc_conf.proofs.lost_text.add_lines.Given as goal

abbrev pub invariant-loop-value : goal.invariant-loop-value
invariant-loop-value l = l.text.items ≡ l.fn.text.items ++ lines_of (map lost_view (take l.value-index l.lost))
