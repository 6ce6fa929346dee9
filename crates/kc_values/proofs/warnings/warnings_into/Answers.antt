use Rattle.std.proofs.Common.{OnOk, map, refl, subst, sym, ◌++◌, ◌∙◌, ◌≡◌}
use Rattle.kc_diagnostics.specs.Warnings.{owned_warning}
use Rattle.kc_language.specs.{Values.name, declared.expressions.SymbolType.TheVariants.{Bool as IsBool, Tristate}}
use Rattle.kc_tree.specs.{Layouts.facts_of, Places.mode_view}
use Rattle.kc_values.specs.{TableFacts.known_at, User.given_in}
use Rattle.kc_values.proofs.Joined.{no_choice, truth_warned}
use Rattle.kc_values.proofs.warnings.warnings_into.Goals as goal

pub returns-in-Bool : goal.returns-in-Bool
returns-in-Bool c =
    let t = c.args.table.now in
    let f = facts_of t.layout.now c.args.id.0 c.args.symbol.now in
    let alone = no_choice c.args.symbol.now.choice (sym c.is_some.ensures ∙ c.if-is_some.false) in
    let e = truth_warned t.tree.now (known_at t) (name t.tree.now c.args.id) f (mode_view c.args.symbol.now.choice)
    (given_in c.args.user) IsBool refl c.in-Bool.is alone in
    subst (λ x. OnOk c.select_warnings.result (map owned_warning c.select_warnings.new.out.items ≡ map owned_warning c.args.out.now.items ++ x)) e c.select_warnings.ensures

pub returns-in-Tristate : goal.returns-in-Tristate
returns-in-Tristate c =
    let t = c.args.table.now in
    let f = facts_of t.layout.now c.args.id.0 c.args.symbol.now in
    let alone = no_choice c.args.symbol.now.choice (sym c.is_some.ensures ∙ c.if-is_some.false) in
    let e = truth_warned t.tree.now (known_at t) (name t.tree.now c.args.id) f (mode_view c.args.symbol.now.choice)
    (given_in c.args.user) Tristate refl c.in-Tristate.is alone in
    subst (λ x. OnOk c.select_warnings-in-Tristate.result
    (map owned_warning c.select_warnings-in-Tristate.new.out.items ≡ map owned_warning c.args.out.now.items ++ x)) e c.select_warnings-in-Tristate.ensures
