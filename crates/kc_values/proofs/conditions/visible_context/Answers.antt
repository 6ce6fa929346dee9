use Rattle.std.proofs.Common.{ap, subst, sym, ◌<◌, ◌∙◌}
use Rattle.kc_language.specs.Expressions.{lesser}
use Rattle.kc_tree.specs.Layouts.{outer_visible}
use Rattle.kc_values.proofs.{ContextLemmas.{visible-before, visible-walk}, TriLemmas.rank-same}
use Rattle.kc_values.proofs.conditions.visible_context.Goals as goal

pub menus-preserved : goal.menus-preserved
menus-preserved c =
    visible-walk c.args.table.now c.menus.at.0 c.visible_menu-menu.result.0 c.attributes.result.now c.menus.least c.visible_least-least.result _ c.outer_visible-at.result.0
    (sym c.is_some.ensures ∙ c.menus-test.true) c.visible_menu-menu.ensures c.attributes.ensures c.visible_least-least.ensures c.outer_visible-at.ensures c.menus.invariant

pub returns-in-Some : goal.returns-in-Some
returns-in-Some c =
    let t = c.args.table.now in
    c.lesser.ensures
    ∙ ap (lesser c.menus.least) (rank-same _ _ (t.visibles_computed c.menus.at.0 c.in-Some.value (sym c.in-Some.ensures)))
    ∙ c.menus.invariant

pub menus-smaller : goal.menus-smaller
menus-smaller c =
    let t = c.args.table.now in
    let is = c.outer_visible-at.ensures ∙ ap (outer_visible t.layout.now) c.visible_menu-menu.ensures in
    subst (λ n. n < c.menus.at.0) (sym is) (visible-before t c.menus.at.0 (sym c.is_some.ensures ∙ c.menus-test.true))
