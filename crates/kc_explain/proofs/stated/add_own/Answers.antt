-- One line more, the first that counts, and all.
use Rattle.std.proofs.Common.{◌++◌, ap, sym, ◌∙◌}
use Rattle.std.specs.List.{list_any}
use Rattle.kc_language.specs.Symbols.{listed}
use Rattle.kc_outcome.specs.Explanations.{through}
use Rattle.kc_entries.specs.Entries.{attribute_line}
use Rattle.kc_entries.specs.declared.entries.AttributeLine.{AttributeLine}
use Rattle.kc_explain.specs.FactLists.{shown}
use Rattle.kc_explain.specs.StatedFacts.{counts, line_told}
use Rattle.kc_explain.proofs.PartLemmas.{own-filter, through-ends, through-next, through-one, through-stops}
use Rattle.kc_explain.proofs.stated.add_own.Goals as goal

pub returns-then-branch-clause-facts : goal.returns-then-branch-clause-facts
returns-then-branch-clause-facts c =
    (through-stops counts (λ (a : AttributeLine). listed (line_told c.args.t.now.layout.now c.args.t.now.solved.now c.args.stated c.args.dependency (attribute_line c.args.own.first.now.file.value.items a.line a.attribute))) (shown c.args.t.now c.args.facts.now.items) c.args.own.attributes.now
    c.loop-line.line-index c.line-item.result (shown c.args.t.now c.loop-line.facts.items) (shown c.args.t.now c.add_one.new.facts.items) c.loop-line.invariant c.loop-line-test.true c.line-item.is
    (c.in_ok-add_one.ensures.facts ∙ ap (λ r. shown c.args.t.now c.loop-line.facts.items ++ r) (ap listed c.line_fact.ensures ∙ through-one counts _))
    (sym (c.in_ok-add_one.ensures.met ∙ ap (λ o. list_any counts (listed o)) c.line_fact.ensures) ∙ c.if-branch.true)).0
    ∙ ap (λ r. shown c.args.t.now c.args.facts.now.items ++ through counts r) (own-filter (line_told c.args.t.now.layout.now c.args.t.now.solved.now c.args.stated c.args.dependency) c.args.own.first.now c.args.own.attributes.now)

pub returns-then-branch-clause-met : goal.returns-then-branch-clause-met
returns-then-branch-clause-met c =
    (through-stops counts (λ (a : AttributeLine). listed (line_told c.args.t.now.layout.now c.args.t.now.solved.now c.args.stated c.args.dependency (attribute_line c.args.own.first.now.file.value.items a.line a.attribute))) (shown c.args.t.now c.args.facts.now.items) c.args.own.attributes.now
    c.loop-line.line-index c.line-item.result (shown c.args.t.now c.loop-line.facts.items) (shown c.args.t.now c.add_one.new.facts.items) c.loop-line.invariant c.loop-line-test.true c.line-item.is
    (c.in_ok-add_one.ensures.facts ∙ ap (λ r. shown c.args.t.now c.loop-line.facts.items ++ r) (ap listed c.line_fact.ensures ∙ through-one counts _))
    (sym (c.in_ok-add_one.ensures.met ∙ ap (λ o. list_any counts (listed o)) c.line_fact.ensures) ∙ c.if-branch.true)).1
    ∙ ap (list_any counts) (own-filter (line_told c.args.t.now.layout.now c.args.t.now.solved.now c.args.stated c.args.dependency) c.args.own.first.now c.args.own.attributes.now)

pub loop-line-preserved : goal.loop-line-preserved
loop-line-preserved c =
    through-next counts (λ (a : AttributeLine). listed (line_told c.args.t.now.layout.now c.args.t.now.solved.now c.args.stated c.args.dependency (attribute_line c.args.own.first.now.file.value.items a.line a.attribute))) (shown c.args.t.now c.args.facts.now.items) c.args.own.attributes.now
    c.loop-line.line-index c.line-item.result (shown c.args.t.now c.loop-line.facts.items) (shown c.args.t.now c.add_one.new.facts.items) c.loop-line.invariant c.loop-line-test.true c.line-item.is
    (c.in_ok-add_one.ensures.facts ∙ ap (λ r. shown c.args.t.now c.loop-line.facts.items ++ r) (ap listed c.line_fact.ensures ∙ through-one counts _))
    (sym (c.in_ok-add_one.ensures.met ∙ ap (λ o. list_any counts (listed o)) c.line_fact.ensures) ∙ c.if-branch.false)

pub returns-clause-facts : goal.returns-clause-facts
returns-clause-facts c =
    (through-ends counts (λ (a : AttributeLine). listed (line_told c.args.t.now.layout.now c.args.t.now.solved.now c.args.stated c.args.dependency (attribute_line c.args.own.first.now.file.value.items a.line a.attribute))) (shown c.args.t.now c.args.facts.now.items) c.args.own.attributes.now
    c.loop-line.line-index (shown c.args.t.now c.loop-line.facts.items) c.loop-line.invariant c.loop-line-test.false).0
    ∙ ap (λ r. shown c.args.t.now c.args.facts.now.items ++ through counts r) (own-filter (line_told c.args.t.now.layout.now c.args.t.now.solved.now c.args.stated c.args.dependency) c.args.own.first.now c.args.own.attributes.now)

pub returns-clause-met : goal.returns-clause-met
returns-clause-met c =
    (through-ends counts (λ (a : AttributeLine). listed (line_told c.args.t.now.layout.now c.args.t.now.solved.now c.args.stated c.args.dependency (attribute_line c.args.own.first.now.file.value.items a.line a.attribute))) (shown c.args.t.now c.args.facts.now.items) c.args.own.attributes.now
    c.loop-line.line-index (shown c.args.t.now c.loop-line.facts.items) c.loop-line.invariant c.loop-line-test.false).1
    ∙ ap (list_any counts) (own-filter (line_told c.args.t.now.layout.now c.args.t.now.solved.now c.args.stated c.args.dependency) c.args.own.first.now c.args.own.attributes.now)
