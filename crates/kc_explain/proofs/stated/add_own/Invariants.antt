-- Those so far, none of which counts.
use Rattle.kc_language.specs.Symbols.{listed}
use Rattle.kc_entries.specs.Entries.{attribute_line}
use Rattle.kc_entries.specs.declared.entries.AttributeLine.{AttributeLine}
use Rattle.kc_explain.specs.FactLists.{shown}
use Rattle.kc_explain.specs.StatedFacts.{counts, line_told}
use Rattle.kc_explain.proofs.PartLemmas.{Through}
use Rattle.kc_explain.proofs.stated.add_own.Given as goal

abbrev pub invariant-loop-line : goal.invariant-loop-line
invariant-loop-line l = Through counts (λ (a : AttributeLine). listed (line_told l.t.layout.now l.t.solved.now l.fn.stated l.fn.dependency (attribute_line l.fn.own.first.now.file.value.items a.line a.attribute)))
    (shown l.t l.fn.facts.items) l.fn.own.attributes.now l.line-index (shown l.t l.facts.items)
