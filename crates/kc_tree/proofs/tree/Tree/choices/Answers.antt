use Rattle.kc_tree.proofs.LayoutLemmas.{layout-is, members-are}
use Rattle.kc_tree.proofs.tree.Tree.choices.Goals as goal

pub returns : goal.returns
returns c =
    let t = c.self.inside in
    rw (← c.self.view_is, c.choices.ensures)
    (members-are _ t.layout (layout-is t.names (record { layout = t.layout; warnings = t.warnings; main_menu = t.main_menu }) c.self.invariant.1))
