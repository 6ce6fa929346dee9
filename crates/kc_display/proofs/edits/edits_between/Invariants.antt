-- The edits so far have the lines so far.
use Rattle.std.proofs.Common.{◌≡◌, ◌+◌, ◌-◌, ◌≤◌, length, map, take}
use Rattle.kc_display.specs.Difference.{new_lines, old_lines}
use Rattle.kc_display.proofs.edits.edits_between.Given as goal

abbrev pub invariant-loop-old_at : goal.invariant-loop-old_at
invariant-loop-old_at l = (old_lines l.edits.items ≡ map (λ line. line.now) (take l.old_at l.old)) × (new_lines l.edits.items ≡ map (λ line. line.now) (take l.new_at l.new))
    × (l.old_at ≤ length l.old) × (l.new_at ≤ length l.new)

abbrev pub decreases-loop-old_at : goal.decreases-loop-old_at
decreases-loop-old_at l = (length l.old - l.old_at) + (length l.new - l.new_at)
