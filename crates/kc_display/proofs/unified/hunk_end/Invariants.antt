-- All edits so far are shown.
use Rattle.std.proofs.Common.{◌≡◌, ◌-◌, length}
use Rattle.kc_display.specs.Difference.{hunk_end}
use Rattle.kc_display.proofs.unified.hunk_end.Given as goal

abbrev pub invariant-loop-end : goal.invariant-loop-end
invariant-loop-end l = hunk_end l.edits (length l.edits - l.k) l.k ≡ hunk_end l.edits (length l.edits - l.end) l.end
