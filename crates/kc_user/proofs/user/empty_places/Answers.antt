use Rattle.std.proofs.{Common.None, lemmas.List.replicate_more}
use Rattle.kc_user.proofs.user.empty_places.Goals as goal

pub loop-preserved : goal.loop-preserved
loop-preserved g c = rw (c.in_ok-push.ensures.items, c.loop.invariant) (replicate_more c.loop.counter None)
