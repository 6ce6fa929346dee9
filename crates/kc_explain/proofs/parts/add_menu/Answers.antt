-- What a menu asks of what is visible.
use Rattle.std.proofs.Common.{◌++◌, ap, append-nil, map, sym, ◌∙◌}
use Rattle.std.proofs.lemmas.Result.{on_ok_weaker}
use Rattle.kc_language.specs.Symbols.{visible_in}
use Rattle.kc_entries.specs.StatementViews.{head_view}
use Rattle.kc_explain.specs.PartViews.{asked_of, part_view}
use Rattle.kc_explain.proofs.LineLemmas.{entry-there}
use Rattle.kc_explain.proofs.PartLemmas.{menu-is, menu-other, own-known}
use Rattle.kc_explain.proofs.parts.add_menu.Goals as goal

pub returns-in-Menu : goal.returns-in-Menu
returns-in-Menu c =
    let is = entry-there c.args.layout.now c.args.block.0 c.in-Some.own.first.now (sym c.in-Some.ensures.first) in
    on_ok_weaker c.add_own.result
    (λ n. n ∙ ap (λ r. map part_view c.args.parts.now.items ++ r)
    (ap (asked_of visible_in) (own-known c.args.layout.now c.args.block.0 c.in-Some.own.first.now c.in-Some.own.attributes.now c.in-Some.ensures.first c.in-Some.ensures.own)
    ∙ menu-is c.args.layout.now c.args.block.0 c.in-Some.own.first.now is _ (ap head_view c.in-Menu.is)))
    c.add_own.ensures

pub returns-in_default : goal.returns-in_default
returns-in_default c =
    let is = entry-there c.args.layout.now c.args.block.0 c.in-Some.own.first.now (sym c.in-Some.ensures.first) in
    sym (append-nil (map part_view c.args.parts.now.items))
    ∙ ap (λ r. map part_view c.args.parts.now.items ++ r) (menu-other c.args.layout.now c.args.block.0 c.in-Some.own.first.now is c.in_default.not-Menu)
