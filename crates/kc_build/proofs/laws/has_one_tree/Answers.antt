-- Why `has_one_tree` keeps its contract.
use Rattle.std.proofs.Common.{sym, refl, ap, ◌∙◌}
use Rattle.kc_entries.specs.PartsOfSymbols.{tree_of_log}
use Rattle.kc_build.proofs.laws.has_one_tree.Goals as goal

pub returns : goal.returns
returns c files root =
    let (e, expands, only) = c.has_one_expansion.ensures files root in
    (tree_of_log e, (e, expands, refl), λ other (o, expands_o, is). ap tree_of_log (only o expands_o) ∙ sym is)
