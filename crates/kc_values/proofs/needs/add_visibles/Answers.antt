use Rattle.std.proofs.{Common.{List, [], ap, arith, get_or, length, map, take, ℕ, ◌++◌, ◌∙◌, ◌∷◌, ◌≡◌}, lemmas.List.take_all}
use Rattle.kc_order.specs.Graph.{Nodes}
use Rattle.kc_tree.specs.declared.rows.EntryId.{EntryId}
use Rattle.kc_values.specs.NeedRows.{row_of, visible_row}
use Rattle.kc_values.proofs.RowsMade.{closed, listed_read, rows_behind, untouched}
use Rattle.kc_values.proofs.needs.add_visibles.Goals as goal

pub loop-menu-preserved : goal.loop-menu-preserved
loop-menu-preserved c =
    let l = c.args.layout.now in
    let n = length c.symbols-count.result.now in
    let items = c.deref-menu-items.result.now in
    let x = get_or items c.loop-menu.menu-index (record { 0 = 0 }) in
    let row = closed l n (visible_row l x.0) c.loop-menu.row c.visible_row_into.new.out (ap length c.symbols-count.ensures) c.loop-menu.invariant.1 c.in_ok-visible_row_into.ensures in
    let f : EntryId → List ℕ = λ menu. row_of l (visible_row l menu.0) in (
      listed_read f c.close_row.new.graph c.loop-menu.graph c.close_row-in-loop-menu.new.graph items c.loop-menu.menu-index (record { 0 = 0 }) _ c.loop-menu-test.true
          c.loop-menu.invariant.0 c.in_ok-close_row-2.ensures.graph row,
      c.in_ok-close_row-2.ensures.empty,
    )

pub returns-clause-graph : goal.returns-clause-graph
returns-clause-graph c =
    let l = c.args.layout.now in
    let n = length c.symbols-count.result.now in
    let f : EntryId → List ℕ = λ menu. row_of l (visible_row l menu.0) in
    let items = c.deref-menu-items.result.now in
    let by : List (List ℕ) → Nodes = λ rs. record c.args.graph.now { rows = c.args.graph.now.rows ++ rs } in
    let none = untouched n c.args.row.now c.requires.row in
    let first : c.close_row.new.graph ≡ by ([] ∷ []) = c.in_ok-close_row.ensures.graph ∙ ap (λ r. by (r ∷ [])) none in
    rows_behind c.args.graph.now c.close_row.new.graph c.loop-menu.graph ([] ∷ []) (map f (take c.loop-menu.menu-index items)) first c.loop-menu.invariant.0
    ∙ ap (λ ms. by ([] ∷ map f ms)) (take_all c.loop-menu.menu-index items (omega arith) ∙ c.deref-menu-items.ensures.value)
