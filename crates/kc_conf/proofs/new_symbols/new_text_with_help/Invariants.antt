use Rattle.kc_read.specs.Files.{files_in}
use Rattle.std.proofs.Common.{◌≡◌, ◌++◌, drop}
use Rattle.std.specs.Prelude.{flat_map}
use Rattle.kc_outcome.specs.Explanations.{new_text_with_help}
use Rattle.kc_language.specs.Texts.{solution_view}
use Rattle.kc_entries.specs.Entries.{lines_in}
use Rattle.kc_conf.specs.PartsOfExplanations.{new_with_help}
use Rattle.kc_conf.proofs.new_symbols.new_text_with_help.Given as goal

-- the symbols behind are still to come, from the same files
abbrev pub invariant-loop-i : goal.invariant-loop-i
invariant-loop-i l =
    let told = solution_view l.solved in
    (l.reader ≡ l.files)
    × (l.text.items ++ flat_map (new_with_help (files_in l.files) (lines_in l.layout.entries) l.solved.tree l.prefix told) (drop l.i l.solved.tree.defined)
    ≡ new_text_with_help (files_in l.files) (lines_in l.layout.entries) l.solved.tree l.prefix told)
