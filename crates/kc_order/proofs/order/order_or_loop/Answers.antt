use Rattle.std.proofs.{Common.{All, ap, arith, find, length, subst, sym, ℕ, ◌<◌, ◌∙◌, ◌≡◌}, lemmas.List.get_or_default}
use Rattle.kc_order.specs.{FirstUnordered.{TellsUnordered, is_unordered_at}, Graph.{IsGraph, needs_of}, Loop.HoldsNeeding, Needs.AreWithin, Order.IsOrderOf, Search.is_unordered, declared.search.NodeState.TheVariants.New}
use Rattle.kc_language.specs.Needs.{IsNamedLoop, needs_in, unordered_after}
use Rattle.kc_order.proofs.{FirstLemmas.{find_by_place, find_without_place, same_found}, Groups.{flat, graph, needs_count, none_unordered, unordered_alike}, Held.rows_below, NodePlaces.{marks_tell, none_found}, SearchSteps.{finishes, unordered_iff}, order.order_or_loop.Goals.After-first_unordered}
use Rattle.kc_order.proofs.order.order_or_loop.Goals as goal

pub search_all-requires-clause-rows_below : goal.search_all-requires-clause-rows_below
search_all-requires-clause-rows_below c =
    rows_below c.graph.inside.rows (subst (λ g. AreWithin g.rows) (sym c.graph.view_is) c.requires.graph.within)

-- the graph by its parts
is_graph : (c : After-first_unordered) → IsGraph (graph c.graph.inside.symbols c.graph.inside.rows)
is_graph c = subst IsGraph (sym c.graph.view_is) c.requires.graph

-- the marks find what is unordered
by_marks : (c : After-first_unordered) →
    find (is_unordered_at c.deref.result.now) c.args.sequence.now ≡
    find (unordered_after (flat c.graph.inside.symbols c.graph.inside.rows) c.graph.inside.symbols) c.args.sequence.now
by_marks c =
    let rows = c.graph.inside.rows in
    let search = c.in_ok-states.field-0 in
    let over = c.in_ok-states.ensures in
    let tells : TellsUnordered rows search.states.items = record { count = over.sound.states_len; each = unordered_iff rows search over } in
    rw c.deref.ensures.value
    (same_found _ _ c.args.sequence.now (marks_tell c.args.sequence.now (graph c.graph.inside.symbols rows) (is_graph c) search.states.items
    (subst (λ g. All (λ s. s < g.symbols) c.args.sequence.now) (sym c.graph.view_is) c.requires.sequence) tells))

pub returns-in-None-clause-order : goal.returns-in-None-clause-order
returns-in-None-clause-order c =
    let rows = c.graph.inside.rows in
    let n = c.graph.inside.symbols in
    let search = c.in_ok-states.field-0 in
    let over = c.in_ok-states.ensures in
    let at = (goal.at.returns-in-None-clause-order c).After-first_unordered in
    let none = sym (by_marks at) ∙ find_without_place _ c.args.sequence.now (sym c.first_unordered.ensures ∙ c.in-None.is) in
    let needing = subst (λ g. HoldsNeeding c.args.sequence.now (needs_of g)) (sym c.graph.view_is) c.requires.needing in
    let free = λ (s : ℕ) (l : s < n).
    unordered_alike (graph n rows) (is_graph at) s l ∙ none_found c.args.sequence.now (graph n rows) (is_graph at) needing none s l in
    subst (λ g. IsOrderOf (length g.rows) (needs_in g.rows) search.order.items) c.graph.view_is
    (finishes rows search over (λ t d b.
    ap is_unordered (get_or_default search.states.items t d New b)
    ∙ unordered_iff rows search over t (omega (arith, b, over.sound.states_len))
    ∙ none_unordered (graph n rows) (is_graph at) free t (omega (arith, b, over.sound.states_len))))

pub named_loop-requires-clause-needing : goal.named_loop-requires-clause-needing
named_loop-requires-clause-needing c = subst (λ g. HoldsNeeding c.args.sequence.now (needs_of g)) (sym c.graph.view_is) c.requires.needing

pub named_loop-requires-clause-first : goal.named_loop-requires-clause-first
named_loop-requires-clause-first c =
    sym (by_marks (goal.at.named_loop-requires-clause-first c).After-first_unordered)
    ∙ (find_by_place _ c.args.sequence.now c.in-Some.first (sym c.first_unordered.ensures ∙ c.in-Some.is)).1

pub returns-clause-refused : goal.returns-clause-refused
returns-clause-refused c =
    let n = c.graph.inside.symbols in
    let at = (goal.at.returns-clause-refused c).After-first_unordered in
    subst (λ g. IsNamedLoop c.args.sequence.now (length (needs_of g)) (needs_in (needs_of g)) c.in_ok-found-in-Some.found.items) c.graph.view_is
    (subst (λ m. IsNamedLoop c.args.sequence.now m (flat n c.graph.inside.rows) c.in_ok-found-in-Some.found.items)
    (sym (needs_count (graph n c.graph.inside.rows) (is_graph at)))
    c.in_ok-found-in-Some.ensures)
