use Rattle.std.proofs.Common.{ap, refl, ◌++◌, ◌∙◌}
use Rattle.std.specs.Option.{option_copied}
use Rattle.kc_language.specs.Texts as spec
use Rattle.kc_values.specs.{TableFacts.{facts_in, known_at}, User.given_in, Warnings.held}
use Rattle.kc_values.proofs.Joined.{range_joined}
use Rattle.kc_values.proofs.warnings.range_warnings.Goals as goal

pub returns : goal.returns
returns c =
    let t = c.args.table.now in
    let f = facts_in t c.args.id c.args.symbol.now in
    range_joined t.tree.now (known_at t) c.name-name.result.now f (given_in c.args.user)
    c.active_range-range.result _ (option_copied c.visible_text_of-given.result)
    (option_copied c.if_within_range-used.result) (option_copied c.met_text-default.result) _ _ _
    c.active_range-range.ensures.range
    refl
    c.visible_text_of-given.ensures
    c.if_within_range-used.ensures
    c.met_text-default.ensures
    c.in_ok-user_warning.ensures
    c.in_ok-default_warning.ensures
    ∙ ap (λ n. held c.args.out.now.items ++ spec.range_warnings t.tree.now (known_at t) n f (given_in c.args.user)) c.name-name.ensures
