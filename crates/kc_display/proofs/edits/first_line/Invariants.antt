-- No byte so far ends the line.
use Rattle.std.proofs.Common.{◌≡◌, false, take}
use Rattle.std.specs.List.{list_any}
use Rattle.kc_display.specs.Difference.{is_line_feed}
use Rattle.kc_display.proofs.edits.first_line.Given as goal

abbrev pub invariant-loop-i : goal.invariant-loop-i
invariant-loop-i l = list_any is_line_feed (take l.i l.text) ≡ false
