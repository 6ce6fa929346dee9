use Rattle.std.proofs.Common.{All, take}
use Rattle.kc_possible.specs.Possible.{AreSomeOf, IsDead}
use Rattle.kc_possible.proofs.dead.dead_prompts.Given as goal

abbrev pub invariant-loop-id : goal.invariant-loop-id
invariant-loop-id l = record {
  dead : All (IsDead l.p.laid.tree.now) l.dead.items;
  in_order : AreSomeOf l.dead.items (take l.id-index l.id-items);
}
