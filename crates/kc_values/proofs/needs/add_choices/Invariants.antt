use Rattle.std.proofs.Common.{[], map, ◌++◌, ◌≡◌}
use Rattle.std.specs.{List.range_with_len, Prelude.slice_get}
use Rattle.kc_values.specs.{MadeRows.IsRow, NeedRows.{choice_by, row_of}}
use Rattle.kc_values.proofs.needs.add_choices.Given as goal

abbrev pub invariant-loop-k : goal.invariant-loop-k
invariant-loop-k l =
    (l.graph ≡ record l.initial.graph { rows = l.initial.graph.rows ++ map (λ k. row_of l.layout (choice_by l.layout k (slice_get l.layout.choices.items k))) (range_with_len 0 l.k) }) × IsRow [] [] l.row
