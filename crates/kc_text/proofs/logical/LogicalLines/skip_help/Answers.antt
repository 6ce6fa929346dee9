-- Why `skip_help` keeps its contract.
use Rattle.kc_text.proofs.LongLineLemmas.{long_in_end}
use Rattle.kc_text.proofs.logical.LogicalLines.skip_help.Goals as goal

pub invariant_of-self : goal.invariant_of-self
invariant_of-self c = long_in_end c.self.inside.rest.now c.drop_help-unread.result.rest.now c.self.inside.long.now c.drop_help-unread.ensures.end c.self.invariant
