use Rattle.std.proofs.Common.{refl, sym, ◌∙◌}
use Rattle.kc_tree.proofs.LayoutWalks.{definitions-first-at}
use Rattle.kc_values.specs.NeedRows.{definition, definitions}
use Rattle.kc_values.proofs.WalkSteps.{definitions_less, definitions_next, definitions_next_at, definitions_none}
use Rattle.kc_values.proofs.needs.definitions_into.Goals as goal

pub definitions-init : goal.definitions-init
definitions-init c = (record { nodes_are = refl; names_are = refl }, definitions-first-at c.args.layout.now c.args.id.0 c.args.symbol.now c.requires.row)

pub definitions-preserved : goal.definitions-preserved
definitions-preserved c =
    let l = c.args.layout.now in
    let at = c.definitions.at.0 in
    let row = c.args.symbol.now in
    let test = sym c.is_some.ensures ∙ c.definitions-test.true in (
      rw c.place-place.ensures (definitions_next l c.args.id (definition l row.symbol_type) c.args.out.now (definitions l row.symbol_type c.args.id row.first.0) at c.definitions.out c.definition_into.new.out test
          c.definitions.invariant.1 c.definitions.invariant.0 c.in_ok-definition_into.ensures),
      rw c.place-place.ensures (definitions_next_at l c.args.id at test c.definitions.invariant.1),
    )

pub definitions-smaller : goal.definitions-smaller
definitions-smaller c = rw c.place-place.ensures (definitions_less c.args.layout.now c.args.id c.definitions.at.0 (sym c.is_some.ensures ∙ c.definitions-test.true) c.definitions.invariant.1)

pub returns : goal.returns
returns c =
    let l = c.args.layout.now in
    let row = c.args.symbol.now in
    definitions_none l c.args.id (definition l row.symbol_type) c.args.out.now (definitions l row.symbol_type c.args.id row.first.0) c.definitions.at.0 c.definitions.out (sym c.is_some.ensures ∙ c.definitions-test.false)
    c.definitions.invariant.0
