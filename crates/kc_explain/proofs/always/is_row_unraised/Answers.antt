-- The greatest of all that the lines raise to is n.
use Rattle.std.proofs.Common.{subst, sym}
use Rattle.kc_language.specs.declared.symbols.SelectOrImply.{SelectOrImply}
use Rattle.kc_explain.specs.FixedViews.{IsUnraised}
use Rattle.kc_explain.proofs.AlwaysLemmas.{none_implies, none_selects}
use Rattle.kc_explain.proofs.always.is_row_unraised.Goals as goal

pub returns-in-Select : goal.returns-in-Select
returns-in-Select c h known allows =
    let p = c.args.p.now in
    subst (λ (w : SelectOrImply). IsUnraised p.laid.tree.now known w c.args.id) (sym c.in-Select.is)
    (none_selects p c.args.id c.args.row.now c.requires known (c.is_exactly.ensures h _ (c.selected_bounds.ensures known allows)))

pub returns-in-Imply : goal.returns-in-Imply
returns-in-Imply c h known allows =
    let p = c.args.p.now in
    subst (λ (w : SelectOrImply). IsUnraised p.laid.tree.now known w c.args.id) (sym c.in-Imply.is)
    (none_implies p c.args.id c.args.row.now c.requires known (c.is_exactly-in-Imply.ensures h _ (c.implied_to_bounds.ensures known allows)))
