-- The table of the solution tells what is known.
use Rattle.std.proofs.Common.{◌∙◌}
use Rattle.kc_explain.proofs.FactLemmas.{selected_is, selected_there}
use Rattle.kc_explain.proofs.facts.selected_to.Goals as goal

pub returns-in-Some : goal.returns-in-Some
returns-in-Some c = c.selected_to.ensures ∙ selected_is c.args.t.now c.args.id c.args.symbol.now c.requires c.table-table.result.now c.in-Some.row.now c.table-table.ensures c.in-Some.ensures

pub returns-in-None : goal.returns-in-None
returns-in-None c = absurd (selected_there c.args.t.now c.args.id c.args.symbol.now c.requires c.table-table.result.now c.table-table.ensures c.in-None.ensures)
