-- The lines of the facts so far were added.
use Rattle.std.proofs.Common.{◌≡◌, ◌++◌, map, take}
use Rattle.kc_explain.specs.FactTexts.{facts_text}
use Rattle.kc_explain.specs.FactViews.{fact_view}
use Rattle.kc_explain.proofs.text.add_facts.Given as goal

abbrev pub invariant-loop-fact : goal.invariant-loop-fact
invariant-loop-fact l = l.text.items ≡ l.fn.text.items
    ++ facts_text l.t.is_raw l.t.solved.now.tree l.lead (map (fact_view l.t.solved.now) (take l.fact-index l.facts))
