-- The turn of an accepted tree's options tells nothing of the tree.
use Rattle.std.proofs.Common.{append-nil, refl, sym}
use Rattle.kc_outcome.specs.Outcome.{lines_text}
use Rattle.kc_conf.specs.PartsOfFaults.{nothing_said}
use Rattle.kc_conf.proofs.PartLemmas.{AreLines-nothing}
use Rattle.kc_conf.proofs.RunParts.{RunsTurn-answered}
use Rattle.kc_conf.proofs.many.RunningTask.take.Goals as goal

pub returns-clause-leaves : goal.returns-clause-leaves
returns-clause-leaves g c = λ files of.
    let told = lines_text c.args.accepted.now.laid.tree.now.warnings in
    RunsTurn-answered files c.args.accepted.now.laid.tree.now c.args.options.now c.run_accepted-ended.result c.answer.result.status c.answer.result.is_over
    (g.D.Device.log c.args.device.now) (g.D.Device.log c.run_accepted-ended.new.device) (g.D.Device.log c.answer.new.device)
    (c.run_accepted-ended.ensures.leaves files nothing_said told (record { accepts = of; both = sym (append-nil told); lines = AreLines-nothing }) refl) c.answer.ensures
