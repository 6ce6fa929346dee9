use Rattle.std.proofs.Common.{ℕ, List, length, ap}
use Rattle.std.specs.Prelude.{slice_get}
use Rattle.kc_language.specs.Expressions.{symbol}
use Rattle.kc_values.specs.NeedRows.{by_choice, row_of, symbol_by}
use Rattle.kc_values.proofs.RowsMade.{closed, numbered_more, read_at}
use Rattle.kc_values.proofs.needs.add_symbols.Goals as goal

pub symbol_into-requires-clause-row : goal.symbol_into-requires-clause-row
symbol_into-requires-clause-row c =
    read_at c.symbols-symbol-items.result.now c.args.laid.now.layout.now.symbols.items c.loop-i.i c.symbol-item.result c.symbols-symbol-items.ensures c.loop-i-test.true c.symbol-item.is

pub loop-i-preserved : goal.loop-i-preserved
loop-i-preserved c =
    let tree = c.args.laid.now.tree.now in
    let l = c.args.laid.now.layout.now in
    let n = length c.symbols-count.result.now in
    let s = c.symbol-item.result in
    let i = c.loop-i.i in
    let at = read_at c.symbols-symbol-items.result.now l.symbols.items i s c.symbols-symbol-items.ensures c.loop-i-test.true c.symbol-item.is in
    let row = closed l n (by_choice tree l (symbol i) s s.choice) c.loop-i.row c.symbol_into.new.out (ap length c.symbols-count.ensures) c.loop-i.invariant.1 c.in_ok-symbol_into.ensures in
    let f : ℕ → List ℕ = λ k. row_of l (symbol_by tree l k (slice_get l.symbols.items k)) in (
      numbered_more f c.args.graph.now c.loop-i.graph c.close_row.new.graph i _ c.loop-i.invariant.0 c.in_ok-close_row.ensures.graph (rw at row),
      c.in_ok-close_row.ensures.empty,
    )
