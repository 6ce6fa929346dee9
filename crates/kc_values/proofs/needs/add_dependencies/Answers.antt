use Rattle.std.proofs.Common.{List, ℕ, ap, length}
use Rattle.kc_tree.specs.declared.rows.Choice.{Choice}
use Rattle.kc_values.specs.NeedRows.{dependency_row, row_of}
use Rattle.kc_values.proofs.RowsMade.{closed, listed_more}
use Rattle.kc_values.proofs.needs.add_dependencies.Goals as goal

pub loop-choice-preserved : goal.loop-choice-preserved
loop-choice-preserved c =
    let l = c.args.layout.now in
    let n = length c.symbols-count.result.now in
    let x = c.choice-item.result in
    let row = closed l n (dependency_row l x) c.loop-choice.row c.dependency_row_into.new.out (ap length c.symbols-count.ensures) c.loop-choice.invariant.1 c.in_ok-dependency_row_into.ensures in
    let f : Choice → List ℕ = λ d. row_of l (dependency_row l d) in (
      listed_more f c.args.graph.now c.loop-choice.graph c.close_row.new.graph c.choices-choice-items.result.now c.loop-choice.choice-index x _ c.loop-choice-test.true c.choice-item.is
          c.loop-choice.invariant.0 c.in_ok-close_row.ensures.graph row,
      c.in_ok-close_row.ensures.empty,
    )
