use Rattle.std.proofs.Common.{ap, subst, sym, ◌∙◌}
use Rattle.std.specs.List.{filter_map}
use Rattle.kc_language.specs.{Symbols.visible_in, Values.and_value}
use Rattle.kc_tree.specs.{EntryViews.statements_of, Layouts.{outer_visible, own_at, visible_at}}
use Rattle.kc_possible.specs.Bounds.{IsWithin}
use Rattle.kc_possible.proofs.OutwardSteps.{visible-at}
use Rattle.kc_possible.proofs.conditions.visible_bounds.Goals as goal

pub returns : goal.returns
returns c = λ known ok.
    let tree = c.args.p.now.laid.tree.now in
    let l = c.args.p.now.laid.layout.now in
    let outer = c.outer_visible.ensures ∙ ap (outer_visible l) c.visible_menu-menu.ensures in
    let lines = c.attributes.ensures ∙ ap (own_at l) c.visible_menu-menu.ensures in
    let around = subst (λ v. IsWithin c.visible-around.result (and_value tree known (visible_at l v))) outer (c.visible-around.ensures known ok) in
    let own = subst (λ r. IsWithin c.shown_bounds.result (and_value tree known (filter_map visible_in (statements_of r)))) lines (c.shown_bounds.ensures known ok) in
    subst (IsWithin c.lesser.result) (sym (visible-at tree l known c.args.id.0)) (c.lesser.ensures _ _ around own)
