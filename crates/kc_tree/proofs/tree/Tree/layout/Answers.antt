use Rattle.kc_tree.proofs.LayoutLemmas.{layout-is}
use Rattle.kc_tree.proofs.tree.Tree.layout.Goals as goal

pub returns-clause-laid : goal.returns-clause-laid
returns-clause-laid c =
    let t = c.self.inside in
    rw (← c.self.view_is) (layout-is t.names (record { layout = t.layout; warnings = t.warnings; main_menu = t.main_menu }) c.self.invariant.1)
