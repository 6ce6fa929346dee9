use Rattle.std.proofs.Common.{ℕ, List, length, ap}
use Rattle.std.specs.Prelude.{slice_get}
use Rattle.kc_values.specs.NeedRows.{choice, choice_by, row_of}
use Rattle.kc_values.proofs.RowsMade.{closed, numbered_more, read_at}
use Rattle.kc_values.proofs.needs.add_choices.Goals as goal

pub loop-k-preserved : goal.loop-k-preserved
loop-k-preserved c =
    let l = c.args.layout.now in
    let n = length c.symbols-count.result.now in
    let x = c.choice-item.result in
    let k = c.loop-k.k in
    let at = read_at c.choices-choice-items.result.now l.choices.items k x c.choices-choice-items.ensures c.loop-k-test.true c.choice-item.is in
    let row = closed l n (choice l k x) c.loop-k.row c.choice_into.new.out (ap length c.symbols-count.ensures) c.loop-k.invariant.1 c.in_ok-choice_into.ensures in
    let f : ℕ → List ℕ = λ j. row_of l (choice_by l j (slice_get l.choices.items j)) in (
      numbered_more f c.args.graph.now c.loop-k.graph c.close_row.new.graph k _ c.loop-k.invariant.0 c.in_ok-close_row.ensures.graph (rw at row),
      c.in_ok-close_row.ensures.empty,
    )
