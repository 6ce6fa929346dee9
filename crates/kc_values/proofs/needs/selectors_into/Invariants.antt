use Rattle.std.proofs.Common.{length}
use Rattle.kc_tree.specs.Layouts.{lines_up_to}
use Rattle.kc_tree.proofs.LayoutWalks.{IsLineAt}
use Rattle.kc_values.specs.NeedRows.{last_line, selectors}
use Rattle.kc_values.proofs.RowSteps.{IsLeft}
use Rattle.kc_values.proofs.needs.selectors_into.Given as goal

abbrev pub invariant-lines : goal.invariant-lines
invariant-lines l =
    IsLeft l.initial.out (selectors l.layout l.fn.word l.fn.id (last_line l.fn.symbol l.fn.word)) l.out (selectors l.layout l.fn.word l.fn.id l.at.0) × IsLineAt l.layout l.fn.word l.fn.id l.at.0

abbrev pub decreases-lines : goal.decreases-lines
decreases-lines l = length (lines_up_to l.layout l.fn.word l.fn.id l.at.0)
