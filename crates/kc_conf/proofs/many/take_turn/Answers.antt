-- It is run, or there was no memory for its options.
use Rattle.std.proofs.Common.{ap, refl}
use Rattle.std.specs.Prelude.{IfOk}
use Rattle.kc_conf.specs.Accepted.{IsAcceptedOf}
use Rattle.kc_conf.specs.Many.{no_options, runs}
use Rattle.kc_conf.proofs.many.take_turn.Goals as goal

pub returns-in-Ok-clause-turn : goal.returns-in-Ok-clause-turn
returns-in-Ok-clause-turn g c = λ files of. runs c.in-Ok.options c.in-Ok.is (c.take.ensures.leaves files (rw c.in-Ok.is at of))

pub returns-in-Err-clause-turn : goal.returns-in-Err-clause-turn
returns-in-Err-clause-turn g c = λ files of.
    no_options c.say_no_memory.ensures refl refl
