use Rattle.kc_tree.specs.{Layouts.facts_of, Places.mode_view}
use Rattle.kc_values.specs.{TableFacts.known_at, User.given_in}
use Rattle.kc_solve.proofs.TableSteps.{row_facts, type_of_member, untyped, value_placed}
use Rattle.kc_solve.proofs.compute.kept_value.Goals as goal

pub returns-in-Undefined : goal.returns-in-Undefined
returns-in-Undefined c =
    let t = c.args.table.now in
    let s = c.args.symbol.now in
    let f = facts_of t.layout.now c.args.id.0 s in
    untyped t.tree.now (known_at t) c.args.id f (mode_view s.choice) _ c.in-Undefined.is
    (λ d h. type_of_member t c.args.id f d (row_facts t c.args.id s c.requires.row) h)

pub returns : goal.returns
returns c =
    value_placed c.args.table.now c.args.id c.args.symbol.now (given_in c.args.given) c.args.chosen.now c.in_ok-value.value c.requires.row c.in_ok-value.ensures
