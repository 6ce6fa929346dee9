use Rattle.std.proofs.Common.{ap, not, sym, ◌&&◌, ◌∙◌}
use Rattle.std.specs.Option.{is_some}
use Rattle.kc_tree.specs.{Layouts.facts_of, Places.mode_view}
use Rattle.kc_values.specs.{TableFacts.known_at, User.given_in}
use Rattle.kc_language.specs.Values.{is_n}
use Rattle.kc_solve.proofs.FlagSteps.{does_not_differ}
use Rattle.kc_solve.proofs.flags.symbol_differs.Goals as goal

pub returns-else-has_effect : goal.returns-else-has_effect
returns-else-has_effect c =
    let t = c.args.row.now.table.now in
    let own = given_in c.args.user in
    does_not_differ t.tree.now (known_at t) c.args.row.now.id (facts_of t.layout.now c.args.row.now.id.0 c.args.row.now.symbol.now) own c.args.selections.now.selected.items c.args.selections.now.default.items
    (sym c.has_effect.ensures ∙ c.if-has_effect.false)
    _ (ap mode_view (sym c.in-None.ensures)) c.requires.solved
