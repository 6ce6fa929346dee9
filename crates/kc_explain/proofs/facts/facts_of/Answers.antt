-- A symbol with a row, and any other.
use Rattle.std.proofs.Common.{ap, map, ◌∙◌}
use Rattle.std.proofs.lemmas.Result.{IfOk-weaker}
use Rattle.kc_explain.specs.FactViews.{fact_view}
use Rattle.kc_explain.proofs.FactLemmas.{told_in, told_unknown}
use Rattle.kc_explain.proofs.facts.facts_of.Goals as goal

pub returns-in-Some : goal.returns-in-Some
returns-in-Some c = IfOk-weaker c.facts_at.result _ _ (λ _ e. e ∙ told_in c.args.t.now c.args.id) c.facts_at.ensures

pub returns-in-None : goal.returns-in-None
returns-in-None c = ap (map (fact_view c.args.t.now.solved.now)) c.new.ensures.items ∙ told_unknown c.args.t.now c.args.id c.in-None.ensures ∙ told_in c.args.t.now c.args.id
