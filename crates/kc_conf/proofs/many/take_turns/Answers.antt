-- One turn after another.
use Rattle.std.proofs.Common.{◌<◌, ◌≤◌, ℕ, arith, subst}
use Rattle.std.proofs.lemmas.Result.{IfOk-weaker}
use Rattle.kc_conf.proofs.ManyLemmas.{TakeTurns-all, TakeTurns-last, TakesTurn-given, TurnsSoFar-next, TurnsSoFar-none}
use Rattle.kc_conf.proofs.many.take_turns.Goals as goal

pub loop-i-init : goal.loop-i-init
loop-i-init g c = record { again = c.requires.again; turns = λ files of. TurnsSoFar-none }

pub loop-i-preserved : goal.loop-i-preserved
loop-i-preserved g c = record {
  again = c.take_turn-turn.ensures.again;
  turns = λ files of.
      rw c.greater-status.ensures
      (TurnsSoFar-next (c.loop-i.invariant.turns files of) (subst (λ (n : ℕ). c.loop-i.i < n) c.count-i-end.ensures c.loop-i-test.true)
      (TakesTurn-given c.options_of-options.ensures (rw c.if-turn.false at c.take_turn-turn.ensures.turn files (IfOk-weaker c.options_of-options.result _ _ (of c.loop-i.i) c.options_of-options.ensures))));
}

pub returns-then-turn : goal.returns-then-turn
returns-then-turn g c = λ files of.
    rw c.greater-status.ensures
    (TakeTurns-last (c.loop-i.invariant.turns files of) (subst (λ (n : ℕ). c.loop-i.i < n) c.count-i-end.ensures c.loop-i-test.true)
    (TakesTurn-given c.options_of-options.ensures (rw c.if-turn.true at c.take_turn-turn.ensures.turn files (IfOk-weaker c.options_of-options.result _ _ (of c.loop-i.i) c.options_of-options.ensures))))

pub returns : goal.returns
returns g c = λ files of.
    let end : g.C.Configurations.number c.args.configurations.now ≤ c.loop-i.i = let e = c.count-i-end.ensures in let test = c.loop-i-test.false in omega (arith, e, test) in
    TakeTurns-all (c.loop-i.invariant.turns files of) end
