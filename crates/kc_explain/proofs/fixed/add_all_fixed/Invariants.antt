-- The lines of the facts so far were added.
use Rattle.std.proofs.Common.{map, take}
use Rattle.kc_explain.specs.FactViews.{fact_view}
use Rattle.kc_explain.specs.FixedViews.{AddsFixed}
use Rattle.kc_explain.proofs.fixed.add_all_fixed.Given as goal

abbrev pub invariant-loop-fact : goal.invariant-loop-fact
invariant-loop-fact l = AddsFixed l.t l.of.possible.now.laid.tree.now l.of.id l.lead (map (fact_view l.t.solved.now) (take l.fact-index l.facts)) l.fn.text.items l.text.items
