use Rattle.std.proofs.Common.{◌≡◌}
use Rattle.kc_possible.specs.Possible.{IsSound}
use Rattle.kc_possible.proofs.possible.Possible.of.Given as goal

abbrev pub invariant-loop-node : goal.invariant-loop-node
invariant-loop-node l = record {
  laid : l.possible.laid ≡ l.fn.laid;
  sound : IsSound l.possible;
}
