use Rattle.std.proofs.Common.{take, ◌++◌, ◌≡◌}
use Rattle.kc_how.specs.{Fragments.lines_in, How.fragment_text}
use Rattle.kc_how.proofs.fix.add_lines.Given as goal

abbrev pub invariant-loop-line : goal.invariant-loop-line
invariant-loop-line l = l.text.items ≡ l.initial.text.items ++ fragment_text (lines_in (take l.line-index l.lines))
