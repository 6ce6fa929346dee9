use Rattle.std.proofs.Common.{arith, false, length, subst, sym, ◌∙◌, ◌≡◌}
use Rattle.kc_order.specs.Graph.{needs_of}
use Rattle.kc_language.specs.Needs.{needs_in, unordered_after}
use Rattle.kc_order.proofs.{ByOrder.nothing_unordered, Groups.{needs_count, unordered_alike}}
use Rattle.kc_order.proofs.order.order_of.Goals as goal

pub returns-clause-accepted : goal.returns-clause-accepted
returns-clause-accepted c s l =
    let g = c.args.graph in
    let count = needs_count g c.requires.graph in
    let free = nothing_unordered (length g.rows) (needs_in g.rows) c.in_ok-nodes.nodes.items c.in_ok-nodes.ensures.order s (omega (arith, l, count, c.requires.graph.symbols_there)) in
    subst (λ n. unordered_after (needs_in (needs_of g)) n s ≡ false) (sym count) (sym (unordered_alike g c.requires.graph s (omega (arith, l, count))) ∙ free)
