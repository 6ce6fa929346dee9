use Rattle.std.proofs.Common.{[], map, take, ◌++◌, ◌≡◌}
use Rattle.kc_tree.specs.declared.rows.EntryId.{EntryId}
use Rattle.kc_values.specs.{MadeRows.IsRow, NeedRows.{row_of, visible_row}}
use Rattle.kc_values.proofs.needs.add_visibles.Given as goal

abbrev pub invariant-loop-menu : goal.invariant-loop-menu
invariant-loop-menu l =
    (l.graph ≡ record l.initial.graph { rows = l.initial.graph.rows ++ map (λ (menu : EntryId). row_of l.layout (visible_row l.layout menu.0)) (take l.menu-index l.menu-items) }) × IsRow [] [] l.row
