use Rattle.kc_tree.proofs.LayoutLemmas.{layout-is, row-found}
use Rattle.kc_tree.proofs.tree.Tree.facts.Goals as goal

pub returns : goal.returns
returns c =
    let t = c.self.inside in
    rw (← c.self.view_is)
    (row-found _ t.layout (layout-is t.names (record { layout = t.layout; warnings = t.warnings; main_menu = t.main_menu }) c.self.invariant.1) c.args.id.0 c.symbol.result c.symbol.ensures)
