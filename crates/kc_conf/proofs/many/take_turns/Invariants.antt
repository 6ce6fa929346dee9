-- The turns so far.
use Rattle.kc_language.specs.Expansion.{Files}
use Rattle.std.proofs.Common.{ℕ}
use Rattle.kc_conf.specs.Accepted.{IsAcceptedOf}
use Rattle.kc_outcome.specs.Outcome.{Options}
use Rattle.kc_solve.specs.Again.{IsAgainOf}
use Rattle.kc_conf.proofs.ManyLemmas.{TurnsSoFar}
use Rattle.kc_conf.proofs.many.take_turns.Given as goal

abbrev pub invariant-loop-i : goal.invariant-loop-i
invariant-loop-i g l = record {
  again : IsAgainOf l.accepted.laid l.again;
  turns : (files : Files) → ((i : ℕ) (options : Options) → g.C.Configurations.options l.configurations i options → IsAcceptedOf files options l.accepted) →
      TurnsSoFar (g.T.Task.leaves l.task files l.accepted.laid.tree.now) (g.C.Configurations.options l.configurations) (g.C.Configurations.number l.configurations) l.i l.status (g.D.Device.log l.fn.device) (g.D.Device.log l.device);
}
