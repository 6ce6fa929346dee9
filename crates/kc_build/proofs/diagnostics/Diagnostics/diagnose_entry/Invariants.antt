use Rattle.std.proofs.Common.{◌≡◌, ◌∷◌, drop, false}
use Rattle.kc_entries.specs.Entries.{first_line, own_lines}
use Rattle.kc_build.specs.Diagnosed.{lines_diagnosed, diagnosis_view}
use Rattle.kc_build.proofs.diagnostics.Diagnostics.diagnose_entry.Given as goal

-- what is left to diagnose gives what all lines of the entry give
abbrev pub invariant-loop-line : goal.invariant-loop-line
invariant-loop-line l =
    lines_diagnosed l.names l.symbols l.summary l.prompted (own_lines l.lines.first.now (drop l.line-index l.lines.attributes.now)) (diagnosis_view l.self)
    ≡ lines_diagnosed l.names l.symbols l.summary false (first_line l.lines.first.now ∷ own_lines l.lines.first.now l.lines.attributes.now) (diagnosis_view l.fn.self)
