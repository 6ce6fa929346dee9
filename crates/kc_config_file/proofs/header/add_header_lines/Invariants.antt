use Rattle.std.proofs.Common.{◌≡◌, ◌++◌, drop}
use Rattle.std.specs.Prelude.{flat_map}
use Rattle.kc_config_file.specs.PartsOfTexts.{header_if}
use Rattle.kc_language.specs.Texts.{solution_view}
use Rattle.kc_config_file.proofs.header.add_header_lines.Given as goal

-- the lines of the symbols behind are still to come
abbrev pub invariant-loop-i : goal.invariant-loop-i
invariant-loop-i l =
    let line = header_if l.solved.tree l.prefix (solution_view l.solved) in
    l.file.items ++ flat_map line (drop l.i l.solved.tree.defined) ≡ l.fn.file.items ++ flat_map line l.solved.tree.defined
