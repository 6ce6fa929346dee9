use Rattle.std.proofs.Common.{[], map, ◌++◌, ◌≡◌}
use Rattle.std.specs.{List.range_with_len, Prelude.slice_get}
use Rattle.kc_values.specs.{MadeRows.IsRow, NeedRows.{row_of, symbol_by}}
use Rattle.kc_values.proofs.needs.add_symbols.Given as goal

abbrev pub invariant-loop-i : goal.invariant-loop-i
invariant-loop-i l =
    (l.graph ≡ record l.initial.graph {
      rows = l.initial.graph.rows ++ map (λ i. row_of l.laid.layout.now (symbol_by l.laid.tree.now l.laid.layout.now i (slice_get l.laid.layout.now.symbols.items i))) (range_with_len 0 l.i);
    }) × IsRow [] [] l.row
