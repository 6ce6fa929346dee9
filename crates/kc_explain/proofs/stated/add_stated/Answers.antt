-- One entry more, the first that has a line that counts, and all.
use Rattle.std.proofs.Common.{get_or, sym, ◌∙◌}
use Rattle.std.proofs.lemmas.List.{get_or_default}
use Rattle.kc_explain.specs.FactLists.{shown}
use Rattle.kc_explain.specs.StatedFacts.{counts, entry_told}
use Rattle.kc_explain.proofs.PartLemmas.{through-ends, through-next, through-stops}
use Rattle.kc_explain.proofs.stated.add_stated.Goals as goal

pub returns-then-branch : goal.returns-then-branch
returns-then-branch c =
    (through-stops counts (entry_told c.args.t.now.layout.now c.args.t.now.solved.now c.args.stated) (shown c.args.t.now c.args.facts.now.items) c.args.entries.now
    c.loop-entry.entry-index (get_or c.args.entries.now c.loop-entry.entry-index (record { 0 = 0 })) (shown c.args.t.now c.loop-entry.facts.items) (shown c.args.t.now c.add_stated_at.new.facts.items) c.loop-entry.invariant c.loop-entry-test.true
    (get_or_default c.args.entries.now c.loop-entry.entry-index _ _ c.loop-entry-test.true) c.in_ok-add_stated_at.ensures.facts
    (sym c.in_ok-add_stated_at.ensures.met ∙ c.if-branch.true)).0

pub loop-entry-preserved : goal.loop-entry-preserved
loop-entry-preserved c =
    through-next counts (entry_told c.args.t.now.layout.now c.args.t.now.solved.now c.args.stated) (shown c.args.t.now c.args.facts.now.items) c.args.entries.now
    c.loop-entry.entry-index (get_or c.args.entries.now c.loop-entry.entry-index (record { 0 = 0 })) (shown c.args.t.now c.loop-entry.facts.items) (shown c.args.t.now c.add_stated_at.new.facts.items) c.loop-entry.invariant c.loop-entry-test.true
    (get_or_default c.args.entries.now c.loop-entry.entry-index _ _ c.loop-entry-test.true) c.in_ok-add_stated_at.ensures.facts
    (sym c.in_ok-add_stated_at.ensures.met ∙ c.if-branch.false)

pub returns : goal.returns
returns c =
    (through-ends counts (entry_told c.args.t.now.layout.now c.args.t.now.solved.now c.args.stated) (shown c.args.t.now c.args.facts.now.items) c.args.entries.now
    c.loop-entry.entry-index (shown c.args.t.now c.loop-entry.facts.items) c.loop-entry.invariant c.loop-entry-test.false).0
