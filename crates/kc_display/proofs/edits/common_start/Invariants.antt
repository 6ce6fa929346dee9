-- The lines so far are the same.
use Rattle.std.proofs.Common.{◌≡◌, map, take}
use Rattle.kc_display.proofs.edits.common_start.Given as goal

abbrev pub invariant-loop-i : goal.invariant-loop-i
invariant-loop-i l = map (λ line. line.now) (take l.i l.old) ≡ map (λ line. line.now) (take l.i l.new)
