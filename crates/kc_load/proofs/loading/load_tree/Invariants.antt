use Rattle.std.proofs.Common.{[], false, ◌≡◌, ◌≤◌}
use Rattle.kc_language.specs.Text.{most_lines}
use Rattle.kc_load.specs.{Folder.Leads, Steps.state_of}
use Rattle.kc_load.proofs.{EndLemmas.still_left, SoFar.SoFar}
use Rattle.kc_load.proofs.loading.load_tree.Given as goal

abbrev pub invariant-loop-name : goal.invariant-loop-name
invariant-loop-name g l = record {
  so_far : SoFar (g.F.Folder.state l.folder) l.dir l.kconfig (state_of l.loading);
  within : l.loading.lines ≤ most_lines;
  leads : Leads [] (g.F.Folder.state l.fn.folder) (g.F.Folder.state l.folder);
  tree : l.loading.files.flat ≡ false;
}

abbrev pub decreases-loop-name : goal.decreases-loop-name
decreases-loop-name g l = still_left (state_of l.loading)
