-- None, one fact more, and all.
use Rattle.kc_explain.specs.FactViews.{fact_view}
use Rattle.kc_explain.proofs.FixedLemmas.{adds_all, adds_next, adds_nothing}
use Rattle.kc_explain.proofs.fixed.add_all_fixed.Goals as goal

pub loop-fact-init : goal.loop-fact-init
loop-fact-init c = adds_nothing c.args.t.now c.args.of.now.possible.now.laid.tree.now c.args.of.now.id c.args.lead.now c.args.text.now.items

pub loop-fact-preserved : goal.loop-fact-preserved
loop-fact-preserved c =
    adds_next c.args.t.now c.args.of.now.possible.now.laid.tree.now c.args.of.now.id c.args.lead.now (fact_view c.args.t.now.solved.now) c.args.facts.now c.loop-fact.fact-index c.fact-item.result _ _ _
    c.loop-fact-test.true c.fact-item.is c.loop-fact.invariant c.in_ok-add_if_fixed.ensures

pub returns : goal.returns
returns c =
    adds_all c.args.t.now c.args.of.now.possible.now.laid.tree.now c.args.of.now.id c.args.lead.now (fact_view c.args.t.now.solved.now) c.args.facts.now c.loop-fact.fact-index _ _
    c.loop-fact-test.false c.loop-fact.invariant
