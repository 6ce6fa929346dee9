-- What holds at each turn of the loop of `give_all`.
use Rattle.kc_language.specs.ConfigFile.{ArePlacesOf}
use Rattle.kc_call_tests.proofs.trial.give_all.Given as goal

abbrev pub invariant-loop-one : goal.invariant-loop-one
invariant-loop-one l = ArePlacesOf l.tree l.user
