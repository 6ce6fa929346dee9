use Rattle.std.proofs.Common.{◌≡◌, ◌*◌, ◌≤◌, drop}
use Rattle.kc_language.specs.Lines.{column}
use Rattle.kc_explain.proofs.statement_lines.column.Given as goal

-- the rest of the line is counted on
abbrev pub invariant-loop-b : goal.invariant-loop-b
invariant-loop-b l = (column l.at (drop l.b-index l.line) ≡ column 0 l.line) × (l.at ≤ 8 * l.b-index)
