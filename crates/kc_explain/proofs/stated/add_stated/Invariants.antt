-- Those so far, none of which counts.
use Rattle.kc_explain.specs.FactLists.{shown}
use Rattle.kc_explain.specs.StatedFacts.{counts, entry_told}
use Rattle.kc_explain.proofs.PartLemmas.{Through}
use Rattle.kc_explain.proofs.stated.add_stated.Given as goal

abbrev pub invariant-loop-entry : goal.invariant-loop-entry
invariant-loop-entry l = Through counts (entry_told l.t.layout.now l.t.solved.now l.fn.stated) (shown l.t l.fn.facts.items) l.entries l.entry-index (shown l.t l.facts.items)
