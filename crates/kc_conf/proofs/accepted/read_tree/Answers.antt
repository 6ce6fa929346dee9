-- The tree is that of the lines of the files.
use Rattle.kc_read.specs.Files.{files_in}
use Rattle.kc_outcome.specs.Outcome.{no_tree}
use Rattle.kc_conf.proofs.accepted.read_tree.Goals as goal

pub returns-in-Ok-tree_of : goal.returns-in-Ok-tree_of
returns-in-Ok-tree_of c = record {
  built = c.in-Ok-tree_of.ensures.built (files_in c.args.files) c.args.root.now c.in-Ok.ensures.listed;
  opened = c.in-Ok.ensures.opened;
  kept = c.kept_if-kept.ensures;
}

pub returns-in-Err-tree_of : goal.returns-in-Err-tree_of
returns-in-Err-tree_of c = λ known. no_tree (c.in-Err-tree_of.ensures.refused known (files_in c.args.files) c.args.root.now c.in-Ok.ensures.listed)
