-- What an `if` and a menu ask.
use Rattle.std.proofs.Common.{◌++◌, Some, ap, append-nil, map, sym, ◌∙◌}
use Rattle.std.proofs.lemmas.Result.{on_ok_weaker}
use Rattle.kc_expr.specs.Form.{form_of}
use Rattle.kc_language.specs.Symbols.{dependency_in}
use Rattle.kc_entries.specs.StatementViews.{head_view}
use Rattle.kc_explain.specs.PartViews.{asked_of, part_view, worth_parts}
use Rattle.kc_explain.proofs.LineLemmas.{entry-there}
use Rattle.kc_explain.proofs.PartLemmas.{block-if, block-menu, block-other, own-known}
use Rattle.kc_explain.proofs.parts.add_block.Goals as goal

pub returns-in-If : goal.returns-in-If
returns-in-If c =
    let l = c.args.layout.now in
    let x = c.in-Some.own.first.now in
    let is = entry-there c.args.layout.now c.args.block.0 c.in-Some.own.first.now (sym c.in-Some.ensures.first) in
    on_ok_weaker c.add_worth.result
    (λ n. n ∙ ap (λ r. map part_view c.args.parts.now.items ++ r) ((λ j. worth_parts (Some (c.head_line.ensures j)) (Some (form_of (c.deref.ensures j))))
    ∙ block-if c.args.layout.now c.args.block.0 c.in-Some.own.first.now is (form_of c.in-If.e.value) (ap head_view c.in-If.is)))
    c.add_worth.ensures

pub returns-in-Menu : goal.returns-in-Menu
returns-in-Menu c =
    let is = entry-there c.args.layout.now c.args.block.0 c.in-Some.own.first.now (sym c.in-Some.ensures.first) in
    on_ok_weaker c.add_own.result
    (λ n. n ∙ ap (λ r. map part_view c.args.parts.now.items ++ r)
    (ap (asked_of dependency_in) (own-known c.args.layout.now c.args.block.0 c.in-Some.own.first.now c.in-Some.own.attributes.now c.in-Some.ensures.first c.in-Some.ensures.own)
    ∙ block-menu c.args.layout.now c.args.block.0 c.in-Some.own.first.now is _ (ap head_view c.in-Menu.is)))
    c.add_own.ensures

pub returns-in_default : goal.returns-in_default
returns-in_default c =
    let is = entry-there c.args.layout.now c.args.block.0 c.in-Some.own.first.now (sym c.in-Some.ensures.first) in
    sym (append-nil (map part_view c.args.parts.now.items))
    ∙ ap (λ r. map part_view c.args.parts.now.items ++ r) (block-other c.args.layout.now c.args.block.0 c.in-Some.own.first.now is c.in_default.not-If c.in_default.not-Menu)
