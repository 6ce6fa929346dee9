use Rattle.std.proofs.Common.{arith, subst, sym, ◌<◌}
use Rattle.kc_language.specs.{Texts.Solution, Values.name_count}
use Rattle.kc_tree.specs.Layouts.{facts_of}
use Rattle.kc_solve.proofs.{SolvedSteps.new_is, TableSteps.{row_count, row_facts}}
use Rattle.kc_solve.proofs.solved.Solved.is_new.Goals as goal

pub symbol_row-symbol-requires : goal.symbol_row-symbol-requires
symbol_row-symbol-requires c =
    let below : c.args.id.0 < name_count c.self.inside.table.tree.now = subst (λ (s : Solution). c.args.id.0 < name_count s.tree) (sym c.self.view_is) c.requires in
    omega (arith, below, row_count c.self.inside.table)

pub returns : goal.returns
returns c =
    let t = c.self.inside.table in
    new_is t.tree.now c.self.inside.user.now t.values _ _ _ _ _ c.self.invariant _ c.self.view_is c.self.invariant.full _ c.args.id
    (facts_of t.layout.now c.args.id.0 c.symbol_row-symbol.result.now) (row_facts t c.args.id c.symbol_row-symbol.result.now c.symbol_row-symbol.ensures) c.symbol_is_new.ensures
