use Rattle.std.proofs.Common.{◌-◌}
use Rattle.kc_entries.specs.Entries.{lines_in}
use Rattle.kc_tree.specs.EntryViews.{entry_count, index_of}
use Rattle.kc_build.specs.Diagnosed.{IsDiagnosed}
use Rattle.kc_build.proofs.DiagnoseLemmas.{ArePassed}
use Rattle.kc_build.proofs.diagnostics.diagnose.Given as goal

-- the lines of the entries before one are diagnosed
abbrev pub invariant-entries : goal.invariant-entries
invariant-entries l = record {
  passed : ArePassed l.entries l.i l.choices;
  diagnosed : IsDiagnosed l.names (lines_in l.entries) (index_of l.entries l.i) l.diagnostics;
}

abbrev pub decreases-entries : goal.decreases-entries
decreases-entries l = entry_count l.entries - l.i
