use Rattle.std.proofs.Common.{◌-◌, ◌≤◌}
use Rattle.kc_tree.specs.EntryViews.{entry_count}
use Rattle.kc_build.specs.Standing.{AreBlocksBefore}
use Rattle.kc_build.proofs.blocks.blocks_of.Given as goal

abbrev pub invariant-entries : goal.invariant-entries
invariant-entries l = record { so_far : AreBlocksBefore l.entries l.i l.blocks; within : l.i ≤ entry_count l.entries }

abbrev pub decreases-entries : goal.decreases-entries
decreases-entries l = entry_count l.entries - l.i
