use Rattle.std.proofs.Common.{length}
use Rattle.kc_tree.specs.Layouts.{definitions_at}
use Rattle.kc_tree.proofs.LayoutWalks.{IsDefinitionAt}
use Rattle.kc_values.specs.NeedRows.{definitions}
use Rattle.kc_values.proofs.RowSteps.{IsLeft}
use Rattle.kc_values.proofs.needs.definitions_into.Given as goal

abbrev pub invariant-definitions : goal.invariant-definitions
invariant-definitions l =
    IsLeft l.initial.out (definitions l.layout l.symbol.symbol_type l.fn.id l.symbol.first.0) l.out (definitions l.layout l.symbol.symbol_type l.fn.id l.at.0)
    × IsDefinitionAt l.layout l.fn.id l.at.0

abbrev pub decreases-definitions : goal.decreases-definitions
decreases-definitions l = length (definitions_at l.layout l.fn.id l.at.0)
