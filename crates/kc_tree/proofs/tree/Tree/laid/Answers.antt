use Rattle.kc_tree.proofs.LayoutLemmas.{layout-is}
use Rattle.kc_tree.proofs.tree.Tree.laid.Goals as goal

pub invariant_of-result : goal.invariant_of-result
invariant_of-result c =
    let t = c.self.inside in
    record { laid = rw (← c.self.view_is) (layout-is t.names (record { layout = t.layout; warnings = t.warnings; main_menu = t.main_menu }) c.self.invariant.1) }
