use Rattle.std.proofs.Common.{◌∙◌}
use Rattle.kc_entries.proofs.ListLemmas.{last_of-get}
use Rattle.kc_explain.proofs.excerpt.last_attribute.Goals as goal

pub returns : goal.returns
returns c = c.last.ensures.value ∙ last_of-get c.args.own.now
