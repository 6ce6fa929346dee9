-- So many lists are empty.
use Rattle.std.proofs.Common.{◌≡◌, [], map, replicate}
use Rattle.kc_user.proofs.lists.Lists.new.Given as goal

abbrev pub invariant-loop : goal.invariant-loop
invariant-loop g l = map (λ v. v.items) l.lists.items ≡ replicate l.counter []
