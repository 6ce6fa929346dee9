-- A line and what stands below it.
use Rattle.std.proofs.Common.{[], ◌∷◌}
use Rattle.kc_display.proofs.PageLemmas.{adds-on}
use Rattle.kc_display.proofs.unified.add_unended.Goals as goal

pub returns : goal.returns
returns c = adds-on (_ ∷ []) (_ ∷ []) _ _ _ c.in_ok-add_marked.ensures c.in_ok-add_no_end.ensures
