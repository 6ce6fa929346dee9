use Rattle.std.proofs.Common.{List, ap, length, subst, sym, ℕ, ◌∙◌}
use Rattle.kc_values.specs.TableFacts.{AreSelected}
use Rattle.kc_solve.specs.{Kept.valuation, Orders.IsNodeOrder}
use Rattle.kc_solve.proofs.UserSteps.{count_shown, solves_as_shown}
use Rattle.kc_solve.proofs.solve.full_table.Goals as goal

pub compute-requires-clause-order : goal.compute-requires-clause-order
compute-requires-clause-order c =
    subst (λ (nodes : List ℕ). IsNodeOrder c.args.laid.now.tree.now c.args.laid.now.layout.now nodes) (sym c.nodes.ensures) c.requires.order.nodes_are

pub compute-requires-clause-given : goal.compute-requires-clause-given
compute-requires-clause-given c = count_shown c.symbols-given.result.now c.args.user.now.symbols c.symbols-given.ensures ∙ c.requires.user.symbols

pub compute-requires-clause-chosen : goal.compute-requires-clause-chosen
compute-requires-clause-chosen c = ap length c.choices-chosen.ensures ∙ c.requires.user.choices

pub returns-clause-solved : goal.returns-clause-solved
returns-clause-solved c =
    let t = c.args.laid.now.tree.now in
    let is = c.in_ok-table.ensures.solved in
    record {
      tree_is = is.tree_is;
      full = is.full;
      selected = subst (AreSelected c.in_ok-table.table) c.choices-chosen.ensures is.selected;
      solves = solves_as_shown t c.symbols-given.result.now c.choices-chosen.result.now c.args.user.now (valuation t c.in_ok-table.table.values) c.symbols-given.ensures c.choices-chosen.ensures is.solves;
    }
