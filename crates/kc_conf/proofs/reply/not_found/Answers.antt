-- It is the text that the definitions say.
use Rattle.kc_conf.proofs.ReplyLemmas.{Replies-not_found}
use Rattle.kc_conf.proofs.reply.not_found.Goals as goal

pub returns : goal.returns
returns c = Replies-not_found c.args.question.now c.args.miss c.in_ok-text.text c.in_ok-text.ensures
