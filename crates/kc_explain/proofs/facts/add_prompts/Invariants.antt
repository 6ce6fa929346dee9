-- The prompts of the entries so far.
use Rattle.std.proofs.Common.{◌≡◌, ◌++◌, take}
use Rattle.std.specs.List.{flat_map}
use Rattle.kc_explain.specs.FactLists.{prompts_at, shown}
use Rattle.kc_explain.specs.LineViews.{at_entry}
use Rattle.kc_explain.proofs.facts.add_prompts.Given as goal

abbrev pub invariant-loop-entry : goal.invariant-loop-entry
invariant-loop-entry l = shown l.t l.facts.items ≡ shown l.t l.fn.facts.items ++ flat_map (at_entry l.t.layout.now (prompts_at l.t)) (take l.entry-index l.entries)
