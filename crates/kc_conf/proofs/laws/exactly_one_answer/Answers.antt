-- There is an accepted tree or a refusal, at most one of each, and not both.
use Rattle.std.proofs.Common.{inl, inr}
use Rattle.kc_conf.proofs.laws.exactly_one_answer.Goals as goal

pub returns : goal.returns
returns c files root = elim (c.outcome_exists.ensures.answer files root) [
  | inl (tree, is) ↦ inl (
    tree,
    is,
    λ other. c.one_answer.ensures.one_accepted files root tree other is,
    λ r refused. c.one_answer.ensures.not_both files root r tree refused is,
  )
  | inr (r, is) ↦ inr (
    r,
    is,
    λ other. c.one_answer.ensures.one_refusal files root r other is,
    λ tree accepted. c.one_answer.ensures.not_both files root r tree is accepted,
  )
]
