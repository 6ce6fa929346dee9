-- Each lost value has a line.
use Rattle.std.proofs.Common.{◌∙◌}
use Rattle.kc_conf.proofs.LostLemmas.{none_lost}
use Rattle.kc_conf.proofs.compute.is_none_lost.Goals as goal

pub returns : goal.returns
returns c = c.is_empty.ensures ∙ none_lost c.args.options.now c.args.input.now c.args.solved.now c.args.lost.now c.requires
