use Rattle.std.proofs.Common.{◌≡◌, None, replicate}
use Rattle.kc_user.proofs.user.empty_places.Given as goal

abbrev pub invariant-loop : goal.invariant-loop
invariant-loop g l = l.places.items ≡ replicate l.counter None
