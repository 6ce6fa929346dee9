use Rattle.std.proofs.Common.{length, map, ◌≡◌}
use Rattle.kc_io.specs.{Delivered.text_view, Delivery.share_name}
use Rattle.kc_io.proofs.delivery.share_name.Given as goal

-- what is left is to be answered
abbrev pub invariant-loop-rest : goal.invariant-loop-rest
invariant-loop-rest l = share_name (map text_view l.texts) ≡ share_name (map text_view l.rest)

abbrev pub decreases-loop-rest : goal.decreases-loop-rest
decreases-loop-rest l = length l.rest
