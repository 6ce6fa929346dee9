use Rattle.std.proofs.{Common.{ap, sym, ◌∙◌}, Math.Logic.∥∥₁_elim}
use Rattle.std.specs.Coded.{Coded-set, coded_bool}
use Rattle.kc_tree.specs.{Layouts.facts_of, Places.mode_view}
use Rattle.kc_values.specs.TableFacts.{known_at}
use Rattle.kc_solve.proofs.{MemberSteps.has_other_beside, TableSteps.row_facts}
use Rattle.kc_solve.proofs.flags.has_other_by.Goals as goal

pub returns-in-Some : goal.returns-in-Some
returns-in-Some c =
    let t = c.args.row.now.table.now in
    let row = c.args.row.now.symbol.now in
    ∥∥₁_elim t.formed (Coded-set coded_bool _ _)
    (λ formed.
    sym (has_other_beside t.tree.now (known_at t) formed c.args.row.now.id c.in-Some.selected (facts_of t.layout.now c.args.row.now.id.0 row) c.args.choice.0 (row_facts t c.args.row.now.id row c.requires.row)
    (ap mode_view c.requires.member) c.requires.visible (sym c.requires.default ∙ c.in-Some.is) c.if-selected-row.true))
