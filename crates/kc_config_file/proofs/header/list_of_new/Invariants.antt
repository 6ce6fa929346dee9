use Rattle.std.proofs.Common.{◌≡◌, ◌++◌, drop}
use Rattle.std.specs.Prelude.{flat_map}
use Rattle.kc_config_file.specs.PartsOfTexts.{new_if}
use Rattle.kc_language.specs.Texts.{new_text, solution_view}
use Rattle.kc_config_file.proofs.header.list_of_new.Given as goal

-- the lines of the symbols behind are still to come
abbrev pub invariant-loop-i : goal.invariant-loop-i
invariant-loop-i l =
    let told = solution_view l.solved in
    l.file.items ++ flat_map (new_if l.solved.tree l.prefix told) (drop l.i l.solved.tree.defined) ≡ new_text l.solved.tree l.prefix told
