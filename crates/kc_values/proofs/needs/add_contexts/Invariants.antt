use Rattle.std.proofs.Common.{[], map, ◌++◌, ◌≡◌}
use Rattle.std.specs.List.{range_with_len}
use Rattle.kc_values.specs.{MadeRows.IsRow, NeedRows.{context_row, row_of}}
use Rattle.kc_values.proofs.needs.add_contexts.Given as goal

abbrev pub invariant-loop-i : goal.invariant-loop-i
invariant-loop-i l = (l.graph ≡ record l.initial.graph { rows = l.initial.graph.rows ++ map (λ at. row_of l.layout (context_row l.layout at)) (range_with_len 0 l.i) }) × IsRow [] [] l.row
