use Rattle.std.proofs.Common.{length}
use Rattle.std.specs.Option.{option_copied}
use Rattle.kc_explain.specs.SourceLines.{lines_left}
use Rattle.kc_explain.proofs.SourceLineLemmas.{StandBefore}
use Rattle.kc_explain.proofs.source_lines.rests_of.Given as goal

-- the rests so far, and the lines that are left
abbrev pub invariant-lines : goal.invariant-lines
invariant-lines l = StandBefore (lines_left (option_copied l.text)) l.rests.items (lines_left (option_copied l.next))

abbrev pub decreases-lines : goal.decreases-lines
decreases-lines l = length (lines_left (option_copied l.next))
