-- Those of the choice with the number.
use Rattle.std.proofs.lemmas.Result.{on_ok_weaker}
use Rattle.kc_explain.proofs.HoldingLemmas.{mode-none, mode-some}
use Rattle.kc_explain.proofs.holders.add_mode_names.Goals as goal

pub returns-in-Some : goal.returns-in-Some
returns-in-Some c =
    on_ok_weaker c.add_choice_names.result (mode-some c.args.layout.now c.args.solved.now c.args.choice c.in-Some.entry c.args.all.now.items _ c.in-Some.ensures) c.add_choice_names.ensures

pub returns-in-None : goal.returns-in-None
returns-in-None c = mode-none c.args.layout.now c.args.solved.now c.args.choice c.args.all.now.items c.in-None.ensures
