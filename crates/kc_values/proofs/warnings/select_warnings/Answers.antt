use Rattle.std.proofs.{Common.{[], ap, map, ◌++◌, ◌∙◌, ◌∷◌}, lemmas.List.map-append}
use Rattle.kc_diagnostics.specs.Warnings.{owned_warning}
use Rattle.kc_language.specs.Texts as spec
use Rattle.kc_values.specs.{TableFacts.{facts_in, known_at}, Warnings.held}
use Rattle.kc_values.proofs.Joined.{select_joined}
use Rattle.kc_values.proofs.warnings.select_warnings.Goals as goal

pub returns : goal.returns
returns c =
    let t = c.args.table.now in
    let f = facts_in t c.args.id c.args.symbol.now in
    select_joined t.tree.now (known_at t) c.name.result.now f
    c.selected_to-selected_to.result c.direct-direct.result c.is_above.result (owned_warning c.in_ok-warning.warning) _ _
    c.selected_to-selected_to.ensures
    c.direct-direct.ensures
    c.is_above.ensures
    c.if-not-is_above.false
    c.in_ok-warning.ensures
    (ap (map owned_warning) c.in_ok-push.ensures.items ∙ map-append owned_warning c.args.out.now.items (c.in_ok-warning.warning ∷ []))
    ∙ ap (λ n. held c.args.out.now.items ++ spec.select_warnings t.tree.now (known_at t) n f) c.name.ensures
