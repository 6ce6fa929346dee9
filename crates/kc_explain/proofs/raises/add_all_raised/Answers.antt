-- One line more.
use Rattle.std.proofs.Common.{List, ap, arith, length, map, sym, append_assoc, take, ◌+◌, ◌++◌, ◌∙◌}
use Rattle.std.proofs.lemmas.List.{length-append}
use Rattle.kc_explain.specs.FactLists.{shown}
use Rattle.kc_explain.specs.FactViews.{FactView}
use Rattle.kc_explain.specs.LineViews.{target_view}
use Rattle.kc_explain.specs.RaiseFacts.{all_raised, not_raised, not_raising, raised_told}
use Rattle.kc_explain.proofs.RaiseLemmas.{at-most-one, flat-more}
use Rattle.kc_explain.proofs.raises.add_all_raised.Goals as goal

pub loop-target-preserved : goal.loop-target-preserved
loop-target-preserved c =
    let i = c.loop-target.target-index in
    let see = target_view c.args.t.now.layout.now in
    let item = target_view c.args.t.now.layout.now c.target-item.result in
    let so_far = map (target_view c.args.t.now.layout.now) (take c.loop-target.target-index c.args.targets.now) in
    let few = at-most-one c.args.t.now item in
    let bound = c.loop-target.invariant.bound in
    let more = c.in_ok-count.ensures.count in
    record {
      last = c.in_ok-count.ensures.last;
      facts = c.in_ok-count.ensures.facts ∙ ap (λ (xs : List FactView). xs ++ raised_told c.args.t.now c.args.word (target_view c.args.t.now.layout.now c.target-item.result)) c.loop-target.invariant.facts
          ∙ append_assoc (shown c.args.t.now c.args.facts.now.items) (all_raised c.args.t.now c.args.word so_far) (raised_told c.args.t.now c.args.word item)
          ∙ ap (λ (xs : List FactView). shown c.args.t.now c.args.facts.now.items ++ xs)
          (sym (flat-more (raised_told c.args.t.now c.args.word) see c.args.targets.now i c.target-item.result c.loop-target-test.true c.target-item.is));
      count = (λ j. c.loop-target.invariant.count j + c.in_ok-count.ensures.count j)
          ∙ sym (length-append (not_raising c.args.t.now so_far) (not_raised c.args.t.now item))
          ∙ ap length (sym (flat-more (not_raised c.args.t.now) see c.args.targets.now i c.target-item.result c.loop-target-test.true c.target-item.is));
      bound = omega (arith, few, bound, more);
    }
