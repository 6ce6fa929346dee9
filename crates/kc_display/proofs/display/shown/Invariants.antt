-- The lines so far are shown.
use Rattle.std.proofs.Common.{◌≡◌, [], map, take}
use Rattle.std.specs.List.{flat_map}
use Rattle.kc_display.specs.Hints.{shown_line}
use Rattle.kc_display.proofs.display.shown.Given as goal

abbrev pub invariant-loop-line : goal.invariant-loop-line
invariant-loop-line l = l.shown.items ≡ flat_map (shown_line l.showing l.reason []) (map (λ line. line.now) (take l.line-index l.line-items))
