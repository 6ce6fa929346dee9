-- One definition more, and all.
use Rattle.std.proofs.Common.{refl, sym, ◌∙◌}
use Rattle.kc_explain.proofs.WalkLemmas.{walk-begins, walk-ends, walk-goes, walk-shorter}
use Rattle.kc_explain.proofs.lines.definitions_of.Goals as goal

pub definitions-init : goal.definitions-init
definitions-init c = walk-begins c.args.layout.now c.args.id c.first_definition-at.result.0 _ c.first_definition-at.ensures c.new-all.ensures.items

pub definitions-smaller : goal.definitions-smaller
definitions-smaller c =
    walk-shorter c.args.layout.now c.args.id c.definitions.at.0 _ c.definitions.all.items (sym c.is_some.ensures ∙ c.definitions-test.true) c.definitions.invariant c.next-at.ensures

pub definitions-preserved : goal.definitions-preserved
definitions-preserved c =
    walk-goes c.args.layout.now c.args.id c.definitions.at.0 _ c.definitions.at c.definitions.all.items _ (sym c.is_some.ensures ∙ c.definitions-test.true) refl c.definitions.invariant
    c.next-at.ensures c.in_ok-push.ensures.items

pub returns : goal.returns
returns c = walk-ends c.args.layout.now c.args.id c.definitions.at.0 c.definitions.all.items (sym c.is_some.ensures ∙ c.definitions-test.false) c.definitions.invariant
