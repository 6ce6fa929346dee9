-- No tree is both accepted and refused.
use Rattle.kc_conf.proofs.Once.{one_answer_law}
use Rattle.kc_conf.proofs.laws.one_answer.Goals as goal

pub returns : goal.returns
returns c = one_answer_law c.has_one_expansion.ensures c.one_tree.ensures c.one_named_loop.ensures c.unordered_have_a_loop.ensures.back
