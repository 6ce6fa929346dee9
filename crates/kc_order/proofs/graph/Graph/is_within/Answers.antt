use Rattle.std.proofs.{Common.{arith, length, subst, sym, ◌∙◌, ◌≤◌}, lemmas.Bool.true≢false}
use Rattle.kc_order.specs.{Graph.IsGraph, Rows.RowsBelow}
use Rattle.kc_order.proofs.Held.{graph_down, is_graph, rows_below}
use Rattle.kc_order.proofs.graph.Graph.is_within.Goals as goal

pub returns-then-not-are_below : goal.returns-then-not-are_below
returns-then-not-are_below c =
    let rows = c.self.inside.rows in (
      λ t. absurd (true≢false (sym t)),
      λ is.
          let is' = subst IsGraph (sym c.self.view_is) is in
          let below : RowsBelow c.count-count.result rows = subst (λ k. RowsBelow k rows) (sym c.count-count.ensures) (rows_below rows is'.within) in
          sym c.if-not-are_below.true ∙ c.are_below.ensures.1 below,
    )

pub returns : goal.returns
returns c =
    let rows = c.self.inside.rows in
    let there : c.self.inside.symbols ≤ length rows = omega (arith, c.if-count-self.false, c.count-count.ensures) in (
      λ t. subst IsGraph c.self.view_is
          (is_graph (record { symbols = c.self.inside.symbols; rows = rows }) there
          (subst (λ k. RowsBelow k rows) c.count-count.ensures (c.are_below.ensures.0 c.if-not-are_below.false)) (c.go_down.ensures.0 t)),
      λ is. c.go_down.ensures.1 (graph_down (record { symbols = c.self.inside.symbols; rows = rows }) (subst IsGraph (sym c.self.view_is) is)),
    )
