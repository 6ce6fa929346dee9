-- The tree's warnings are said, or all ends there.
use Rattle.std.proofs.Common.{ap}
use Rattle.kc_outcome.specs.Outcome.{lines_text}
use Rattle.kc_conf.specs.Many.{turns}
use Rattle.kc_conf.proofs.ManyLemmas.{EndsEach-unsaid, IsAcceptedOf-rooted}
use Rattle.kc_conf.proofs.many.all_turns.Goals as goal

pub returns-in-Ok : goal.returns-in-Ok
returns-in-Ok g c = λ files root keeps of keeps_for rooted.
    turns c.args.accepted.now.laid.tree.now (g.D.Device.log c.say_lines.new.device) of.tree (rw c.parse_warnings.ensures at c.in-Ok.ensures)
    (c.take_turns.ensures files (IsAcceptedOf-rooted files root keeps (g.C.Configurations.options c.args.configurations.now) c.args.accepted.now of keeps_for rooted))

pub returns-in-Err : goal.returns-in-Err
returns-in-Err g c = λ files root keeps of keeps_for rooted.
    EndsEach-unsaid (g.T.Task.leaves c.args.task.now files) files root (g.C.Configurations.options c.args.configurations.now) (g.C.Configurations.number c.args.configurations.now) _ _ c.args.accepted.now.laid.tree.now c.in-Err.stop of.tree
    (ap lines_text c.parse_warnings.ensures) c.in-Err.ensures
