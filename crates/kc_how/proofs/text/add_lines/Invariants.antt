-- The lines so far were added.
use Rattle.std.proofs.Common.{◌≡◌, ◌++◌, map, take}
use Rattle.kc_how.specs.How.{fragment_text}
use Rattle.kc_how.proofs.text.add_lines.Given as goal

abbrev pub invariant-loop-line : goal.invariant-loop-line
invariant-loop-line l = l.text.items ≡ l.fn.text.items ++ fragment_text (map (λ line. line.items) (take l.line-index l.lines))
