-- What holds at each turn of the loop of `plain_end`.
use Rattle.std.proofs.Common.{◌-◌, ◌≤◌, length}
use Rattle.kc_text.specs.LexerParts.{ArePlain}
use Rattle.kc_text.proofs.lexer.plain_end.Given as goal

abbrev pub invariant-lanes : goal.invariant-lanes
invariant-lanes l = record { order : l.at ≤ l.n; within : l.n ≤ length l.body; plain : ArePlain l.body l.at l.n }

abbrev pub decreases-lanes : goal.decreases-lanes
decreases-lanes l = length l.body - l.n
