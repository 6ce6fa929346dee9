use Rattle.std.proofs.Common.{◌≡◌, None, fold, get_or, take}
use Rattle.kc_order.specs.FirstUnordered.{lesser_of}
use Rattle.kc_order.proofs.named_loop.first_in_row.Given as goal

abbrev pub invariant-loop-node : goal.invariant-loop-node
invariant-loop-node l = l.first ≡ fold (λ first t. lesser_of first (get_or l.firsts t None)) None (take l.node-index l.row)
