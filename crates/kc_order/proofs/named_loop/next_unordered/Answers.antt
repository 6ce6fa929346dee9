use Rattle.std.proofs.{Common.{arith, get_or, length, rules, sym, ◌<◌, ◌∙◌, ◌≡◌}, lemmas.Option.none-some}
use Rattle.kc_order.specs.{FirstUnordered.place_among, PartsOfNeeds.IsNext}
use Rattle.kc_language.specs.Needs.{unordered_after}
use Rattle.kc_order.proofs.{FirstLemmas.{find_by_place, find_without_place}, Groups.{flat, graph, needs_within}, Held.row_nodes, NodePlaces.next_place, Walks.next_there, named_loop.next_unordered.Goals.{After-first_in_row, In-Some}}
use Rattle.kc_order.proofs.named_loop.next_unordered.Goals as goal

pub first_in_row-requires : goal.first_in_row-requires
first_in_row-requires c =
    let nodes = row_nodes c.args.rows.now c.args.symbol c.requires.graph.within (omega (arith, c.requires.symbol, c.requires.graph.symbols_there)) in
    rw (c.row.ensures, c.requires.firsts.count) nodes

-- the place that the call found
place : (c : After-first_in_row) → c.first_in_row.result ≡
    place_among (unordered_after (flat c.args.symbols c.args.rows.now) c.args.symbols) c.args.sequence.now (flat c.args.symbols c.args.rows.now c.args.symbol)
place c =
    rw c.row.ensures at c.first_in_row.ensures
    ∙ next_place c.args.sequence.now (graph c.args.symbols c.args.rows.now) c.requires.graph c.args.firsts.now c.args.symbol c.requires.firsts c.requires.symbol

-- what stands there
stands_there : (c : In-Some) → (c.in-Some.place < length c.args.sequence.now)
    × IsNext c.args.sequence.now c.args.symbols (flat c.args.symbols c.args.rows.now) c.args.symbol (get_or c.args.sequence.now c.in-Some.place 0)
stands_there c = find_by_place _ c.args.sequence.now c.in-Some.place (sym (place (goal.at.offset_bounds-sequence-place c).After-first_in_row) ∙ c.in-Some.is)

pub offset_bounds-sequence-place : goal.offset_bounds-sequence-place
offset_bounds-sequence-place c = let inside = (stands_there (goal.at.offset_bounds-sequence-place c).In-Some).0 in search rules

pub bounds-sequence-place : goal.bounds-sequence-place
bounds-sequence-place c = (stands_there (goal.at.bounds-sequence-place c).In-Some).0

pub unreachable-requires : goal.unreachable-requires
unreachable-requires c =
    let sequence = c.args.sequence.now in
    let within = needs_within (graph c.args.symbols c.args.rows.now) c.requires.graph in
    let (next, is) = next_there sequence c.args.symbols (flat c.args.symbols c.args.rows.now) within c.requires.needing c.args.symbol c.requires.symbol c.requires.is_unordered in
    none-some next (sym (find_without_place _ sequence (sym (place (goal.at.unreachable-requires c).After-first_in_row) ∙ c.in-None.is)) ∙ is)

pub returns : goal.returns
returns c = (stands_there (goal.at.returns c).In-Some).1
