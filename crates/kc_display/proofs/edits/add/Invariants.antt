-- The lines so far were added.
use Rattle.std.proofs.Common.{map, take}
use Rattle.kc_display.specs.Steps.{Adds}
use Rattle.kc_display.proofs.edits.add.Given as goal

abbrev pub invariant-loop-line : goal.invariant-loop-line
invariant-loop-line l = Adds l.mark (map (λ line. line.now) (take l.line-index l.lines)) l.initial.edits.items l.edits.items
