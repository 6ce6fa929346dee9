use Rattle.std.proofs.Common.{◌≡◌, ◌+◌, ◌≤◌, length}
use Rattle.kc_language.specs.Lines.{from_other, is_help_line, physical_lines}
use Rattle.kc_explain.proofs.statement_lines.lines_within.Given as goal

-- the lines so far belong to the help text
abbrev pub invariant-text : goal.invariant-text
invariant-text l = record {
  rest : from_other (is_help_line l.indent) (physical_lines l.rest) ≡ from_other (is_help_line l.indent) (physical_lines l.from);
  count : l.count + length (physical_lines l.rest) ≡ length (physical_lines l.from);
  within : l.count + length l.rest ≤ length l.from;
}

abbrev pub decreases-text : goal.decreases-text
decreases-text l = length l.rest
