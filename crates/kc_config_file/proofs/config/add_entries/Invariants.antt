use Rattle.std.proofs.Common.{◌++◌, ◌≡◌}
use Rattle.kc_config_file.specs.{EntryTexts.entries_after, PartsOfTexts.entries_text}
use Rattle.kc_config_file.proofs.MenuEntryLemmas.{shown_from}
use Rattle.kc_language.specs.Texts.{solution_view}
use Rattle.kc_config_file.proofs.config.add_entries.Given as goal

-- what the entries behind give is still to come
abbrev pub invariant-loop-i : goal.invariant-loop-i
invariant-loop-i l =
    let told = solution_view l.source.solved.now in
    let tree = l.source.solved.now.tree in
    l.file.items ++ entries_after tree l.source.prefix.now told l.after_end (shown_from l.source.table.now.layout.now l.i)
    ≡ l.fn.file.items ++ entries_text tree l.source.prefix.now told tree.entries
