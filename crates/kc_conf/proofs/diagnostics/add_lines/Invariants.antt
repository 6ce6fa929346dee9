-- The lines so far were added.
use Rattle.std.proofs.Common.{◌≡◌, ◌++◌, map, take}
use Rattle.kc_outcome.specs.Outcome.{lines_text}
use Rattle.kc_conf.proofs.diagnostics.add_lines.Given as goal

abbrev pub invariant-loop-line : goal.invariant-loop-line
invariant-loop-line l = l.text.items ≡ l.fn.text.items ++ lines_text (map (λ line. line.items) (take l.line-index l.lines))
