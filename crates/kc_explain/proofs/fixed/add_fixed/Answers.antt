-- They are facts of the chapter Explanations.
use Rattle.std.proofs.Common.{ap, map, ◌∙◌}
use Rattle.std.proofs.lemmas.Result.{on_ok_weaker}
use Rattle.kc_explain.specs.FactViews.{fact_view}
use Rattle.kc_explain.proofs.FixedLemmas.{adds_facts}
use Rattle.kc_explain.proofs.fixed.add_fixed.Goals as goal

pub returns : goal.returns
returns c =
    on_ok_weaker c.add_all_fixed.result (λ adds. adds_facts c.args.t.now c.args.p.now.laid.tree.now c.args.lead.now c.args.id
    (map (fact_view c.args.t.now.solved.now) c.deref.result.now) _ _ c.requires.tree
    (ap (map (fact_view c.args.t.now.solved.now)) c.deref.ensures.value ∙ c.in_ok-facts.ensures) adds) c.add_all_fixed.ensures
