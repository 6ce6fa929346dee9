-- The symbol that is added is off.
use Rattle.kc_how.proofs.ReasonLemmas.{off_more}
use Rattle.kc_how.proofs.answer.add_new.Goals as goal

pub returns-in_ok-push : goal.returns-in_ok-push
returns-in_ok-push c =
    off_more c.args.p.now.laid.tree.now c.args.found.now.items c.push.new.self.items c.args.id c.requires.found c.requires.off c.in_ok-push.ensures.items
