use Rattle.std.proofs.Common.{arith, subst, sym, ◌<◌}
use Rattle.kc_language.specs.{Texts.Solution, Values.name_count}
use Rattle.kc_tree.specs.Layouts.{facts_of}
use Rattle.kc_solve.proofs.{SourceSteps.source_is, TableSteps.{row_count, row_facts}}
use Rattle.kc_solve.proofs.solved.Solved.source.Goals as goal

pub symbol_row-symbol-requires : goal.symbol_row-symbol-requires
symbol_row-symbol-requires c =
    let below : c.args.id.0 < name_count c.self.inside.table.tree.now = subst (λ (s : Solution). c.args.id.0 < name_count s.tree) (sym c.self.view_is) c.requires in
    omega (arith, below, row_count c.self.inside.table)

pub returns : goal.returns
returns c =
    let t = c.self.inside.table in
    let row = c.symbol_row-symbol.result.now in
    source_is t.tree.now c.self.inside.user.now t.values c.self.invariant.full _ c.self.view_is c.args.id (facts_of t.layout.now c.args.id.0 row)
    (row_facts t c.args.id row c.symbol_row-symbol.ensures) _ c.symbol_source.ensures
