-- What is promised of the answer.
use Rattle.std.proofs.Common.{subst, sym}
use Rattle.std.specs.Prelude.{All}
use Rattle.kc_possible.specs.Possible.{IsOff}
use Rattle.kc_how.specs.Questions.{Answers}
use Rattle.kc_conf.proofs.reply.reply_to.Goals as goal

pub impossible-requires-clause-out : goal.impossible-requires-clause-out
impossible-requires-clause-out c = (subst (Answers c.args.question.now) c.in-Impossible.is c.in_ok-answer.ensures).0

pub impossible-requires-clause-off : goal.impossible-requires-clause-off
impossible-requires-clause-off c =
    let q = c.args.question.now in
    subst (All (IsOff q.laid.now.tree.now)) (sym c.deref-in-Impossible.ensures.value) (subst (Answers q) c.in-Impossible.is c.in_ok-answer.ensures).1
