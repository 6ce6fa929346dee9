use Rattle.std.proofs.Common.{cond, subst, sym}
use Rattle.kc_language.specs.{Expressions.{greater, lesser}, Values.{default_value, direct, first_met, implied_to, is_n}}
use Rattle.kc_possible.specs.{Bounds.IsWithin, PartsOfPossible.facts_in}
use Rattle.kc_possible.proofs.TruthLemmas.{equals-n, implied-within, only-n}
use Rattle.kc_possible.proofs.truths.implied_bounds.Goals as goal

pub returns-then-eq : goal.returns-then-eq
returns-then-eq c = λ known h.
    let p = c.args.p.now in
    let tree = p.laid.tree.now in
    let f = facts_in p c.args.id c.args.row.now in
    let d = default_value tree known (first_met tree known f.defaults) in
    let to = c.implied_to_bounds-implied.result in
    let none = only-n to (implied_to tree known f) (equals-n to.high c.if-eq.ensures) (c.implied_to_bounds-implied.ensures known h) in
    subst (λ t. IsWithin c.default_value_bounds-default.result (cond (is_n t) d (lesser (greater d t) (direct tree known f)))) (sym none) (c.default_value_bounds-default.ensures known h)

pub returns : goal.returns
returns c = λ known h.
    let p = c.args.p.now in
    let tree = p.laid.tree.now in
    let f = facts_in p c.args.id c.args.row.now in
    let d = default_value tree known (first_met tree known f.defaults) in
    let to = implied_to tree known f in
    let direct = direct tree known f in
    let raised = c.greater.ensures d to (c.default_value_bounds-default.ensures known h) (c.implied_to_bounds-implied.ensures known h) in
    let limited = c.lesser.ensures (greater d to) direct raised (c.direct_bounds.ensures known h) in
    implied-within c.join.result d to direct (c.join.ensures.left d (c.default_value_bounds-default.ensures known h)) (c.join.ensures.right (lesser (greater d to) direct) limited)
