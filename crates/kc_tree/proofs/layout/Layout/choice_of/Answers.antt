use Rattle.std.proofs.Common.{sym, subst}
use Rattle.kc_tree.specs.Places.{AreRising}
use Rattle.kc_tree.proofs.ChoiceAtLemmas.{at-place, entries-rise, other-place, past-place}
use Rattle.kc_tree.proofs.layout.Layout.choice_of.Goals as goal

pub begun_before-index-requires : goal.begun_before-index-requires
begun_before-index-requires c = subst AreRising (sym c.deref.ensures.value) (entries-rise c.args.self.now)

pub returns-in-Some : goal.returns-in-Some
returns-in-Some c =
    sym (at-place c.args.self.now c.args.at.0 c.begun_before-index.result c.in-Some.choice.now (sym (rw c.deref-2.ensures.value at c.in-Some.ensures)) c.if-choice-at.true)

pub returns-in_default : goal.returns-in_default
returns-in_default c =
    sym (other-place c.args.self.now c.args.at.0 c.begun_before-index.result (rw c.deref.ensures.value at c.begun_before-index.ensures.point) c.in-Some.choice.now
    (sym (rw c.deref-2.ensures.value at c.in-Some.ensures)) c.if-choice-at.false)

pub returns-in_default-2 : goal.returns-in_default-2
returns-in_default-2 c =
    sym (past-place c.args.self.now c.args.at.0 c.begun_before-index.result (rw c.deref.ensures.value at c.begun_before-index.ensures.point)
    (sym (rw (c.deref-2.ensures.value, c.in_default.is) at c.choice_in.ensures)))
