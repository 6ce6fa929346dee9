use Rattle.std.proofs.Common.{◌≡◌, ◌++◌, ℕ, suc, List, ap, length, map, ◌∙◌, arith}
use Rattle.std.specs.List.{range_with_len}
use Rattle.kc_order.specs.Graph.{Nodes}
use Rattle.kc_values.specs.NeedRows.{context_row, row_of}
use Rattle.kc_values.proofs.RowsMade.{closed, numbered_more}
use Rattle.kc_values.proofs.needs.add_contexts.Goals as goal

pub loop-i-preserved : goal.loop-i-preserved
loop-i-preserved c =
    let l = c.args.layout.now in
    let n = length c.symbols-count.result.now in
    let i = c.loop-i.i in
    let row = closed l n (context_row l i) c.loop-i.row c.context_row_into.new.out (ap length c.symbols-count.ensures) c.loop-i.invariant.1 c.in_ok-context_row_into.ensures in
    let f : ℕ → List ℕ = λ at. row_of l (context_row l at) in (
      numbered_more f c.args.graph.now c.loop-i.graph c.close_row.new.graph i _ c.loop-i.invariant.0 c.in_ok-close_row.ensures.graph row,
      c.in_ok-close_row.ensures.empty,
    )

pub returns-clause-graph : goal.returns-clause-graph
returns-clause-graph c =
    let l = c.args.layout.now in
    let all : c.loop-i.i ≡ suc (length c.args.layout.now.places.items) = omega arith in
    let by : ℕ → Nodes = λ n. record c.args.graph.now { rows = c.args.graph.now.rows ++ map (λ at. row_of l (context_row l at)) (range_with_len 0 n) } in
    c.loop-i.invariant.0 ∙ ap by all
