-- Those of the symbols so far were added.
use Rattle.std.proofs.Common.{◌≡◌, ◌++◌, take}
use Rattle.std.specs.List.{flat_map}
use Rattle.kc_outcome.specs.Explanations.{held}
use Rattle.kc_explain.proofs.holders.add_all_held.Given as goal

abbrev pub invariant-loop-id : goal.invariant-loop-id
invariant-loop-id l = l.all.items ≡ l.fn.all.items ++ flat_map (held l.t.input.now l.t.solved.now) (take l.id-index l.front)
