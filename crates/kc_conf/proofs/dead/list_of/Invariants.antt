-- The symbols so far were added.
use Rattle.std.proofs.Common.{take}
use Rattle.kc_conf.specs.DeadParts.{IsListOf}
use Rattle.kc_conf.proofs.dead.list_of.Given as goal

abbrev pub invariant-loop-id : goal.invariant-loop-id
invariant-loop-id l = IsListOf l.p.laid.tree.now (take l.id-index l.dead) l.text.items
