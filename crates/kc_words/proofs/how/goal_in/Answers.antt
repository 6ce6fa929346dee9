-- The parts before and after the first `=`.
use Rattle.std.proofs.Common.{◌∙◌}
use Rattle.kc_words.proofs.GoalLemmas.{goal-none, goal-parts}
use Rattle.kc_words.proofs.how.goal_in.Goals as goal

pub returns-in-Some : goal.returns-in-Some
returns-in-Some c = c.if_named.ensures ∙ goal-parts c.args.text.now c.split_once.result c.split_once.ensures.cases _ c.in-Some.is

pub returns-in-None : goal.returns-in-None
returns-in-None c = goal-none c.args.text.now c.split_once.result c.split_once.ensures.cases c.in-None.is
