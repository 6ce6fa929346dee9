use Rattle.std.proofs.Common.{[], map, take, ◌++◌, ◌≡◌}
use Rattle.kc_values.specs.{MadeRows.IsRow, NeedRows.{dependency_row, row_of}}
use Rattle.kc_values.proofs.needs.add_dependencies.Given as goal

abbrev pub invariant-loop-choice : goal.invariant-loop-choice
invariant-loop-choice l =
    (l.graph ≡ record l.initial.graph { rows = l.initial.graph.rows ++ map (λ c. row_of l.layout (dependency_row l.layout c)) (take l.choice-index l.choice-items) }) × IsRow [] [] l.row
