use Rattle.std.proofs.Common.{◌∙◌, ap, slice_get, length, ◌-◌}
use Rattle.kc_entries.proofs.ListLemmas.{last_of-get}
use Rattle.kc_read.proofs.frame.Frame.innermost.Goals as goal

pub returns : goal.returns
returns c = c.last.ensures.value ∙ ap (λ xs. slice_get xs (length xs - 1)) c.deref.ensures.value ∙ last_of-get c.args.self.now.blocks.items
