-- One more place.
use Rattle.kc_display.proofs.ShownLemmas.{places-more}
use Rattle.kc_display.proofs.unified.add_places.Goals as goal

pub loop-k-preserved : goal.loop-k-preserved
loop-k-preserved c = places-more c.args.edits.now c.loop-k.k c.args.page.now c.loop-k.page _ c.loop-k-test.true c.loop-k.invariant c.in_ok-add_place.ensures
