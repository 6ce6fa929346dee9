-- The names, and then all places.
use Rattle.std.proofs.Common.{[], ◌∷◌}
use Rattle.kc_display.proofs.{PageLemmas.adds-on, ShownLemmas.places-all}
use Rattle.kc_display.proofs.unified.add_all.Goals as goal

pub returns : goal.returns
returns c =
    adds-on (_ ∷ []) _ _ _ _ c.in_ok-add_old_name.ensures (adds-on (_ ∷ []) _ _ _ _ c.in_ok-add_new_name.ensures (places-all c.args.edits.now _ _ c.in_ok-add_places.ensures))
