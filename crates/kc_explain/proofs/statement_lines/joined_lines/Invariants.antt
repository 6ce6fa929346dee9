use Rattle.std.proofs.Common.{◌≡◌, ◌+◌, ◌≤◌, drop, length}
use Rattle.kc_language.specs.Lines.{physical_lines}
use Rattle.kc_outcome.specs.Explanations.{joined_count}
use Rattle.kc_explain.proofs.statement_lines.joined_lines.Given as goal

-- each line so far is joined with the next
abbrev pub invariant-joined : goal.invariant-joined
invariant-joined l = record {
  count : l.count + joined_count (physical_lines l.rest) ≡ joined_count (physical_lines l.from);
  rest : physical_lines l.rest ≡ drop l.count (physical_lines l.from);
  within : l.count + length l.rest ≤ length l.from;
}

abbrev pub decreases-joined : goal.decreases-joined
decreases-joined l = length l.rest
