-- The lines so far are shown.
use Rattle.std.proofs.Common.{◌≡◌, map, take}
use Rattle.std.specs.List.{flat_map}
use Rattle.kc_hints.specs.Facts.{hinted_line}
use Rattle.kc_hints.proofs.diagnostics.hinted.Given as goal

abbrev pub invariant-loop-line : goal.invariant-loop-line
invariant-loop-line l = l.shown.items ≡ flat_map (hinted_line l.showing l.reason l.facts) (map (λ line. line.now) (take l.line-index l.line-items))
